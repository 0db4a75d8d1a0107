-- Entries that are counted one by one.
use Rattle.std.proofs.Common.{◌≡◌, ◌≤◌, ◌<◌, ◌+◌, ℕ, zero, suc, Bool, true, false, Some, slice_get, List, [], ◌∷◌, ◌++◌, length, take, refl, sym, ap, subst, ◌∙◌, arith, length-append}
use Rattle.std.proofs.lemmas.List.{length-take-le}
use Rattle.std.proofs.lemmas.List.Elements.{filter-append}
use Rattle.std.specs.List.{filter}
use Rattle.std.specs.Prelude.{cond}
use Rattle.journal_report.proofs.JournalLaws.{at_place, take_more}
use Rattle.switch_model.specs.declared.journal.Entry.{Entry}
use Rattle.switch_model.specs.declared.verdict.Verdict.{Verdict}
use Rattle.switch_model.specs.declared.verdict.Verdict.TheVariants.{Accepted, Invalid, Full}
use Rattle.work_laws.specs.Summary.{count_of, is_accepted, is_full, is_invalid, verdict_counts}
use Rattle.work_run.specs.Counted.{AreWithin, counted}
use Rattle.work_summary.specs.declared.summary.VerdictCounts.{VerdictCounts}

module _ (has : Verdict → Bool) where
  abbrev test : Entry → Bool
  test e = has e.verdict

  one_of : (e : Entry) (b : Bool) → length (cond b (e ∷ []) []) ≡ cond b 1 0
  one_of e true = refl
  one_of e false = refl

  count_next : (es : List Entry) (e : Entry) (b : Bool) → has e.verdict ≡ b → count_of has (es ++ e ∷ []) ≡ count_of has es + cond b 1 0
  count_next es e b is =
      ap length (filter-append test es (e ∷ [])) ∙ length-append (filter test es) (filter test (e ∷ [])) ∙ ap (λ (c : Bool). count_of has es + length (cond c (e ∷ []) [])) is ∙ ap (λ (n : ℕ). count_of has es + n) (one_of e b)

  count_up : (es : List Entry) (e : Entry) → has e.verdict ≡ true → count_of has (es ++ e ∷ []) ≡ count_of has es + 1
  count_up es e is = count_next es e true is

  count_same : (es : List Entry) (e : Entry) → has e.verdict ≡ false → count_of has (es ++ e ∷ []) ≡ count_of has es
  count_same es e is = omega (arith, count_next es e false is)

  kept : (e : Entry) (rest : List Entry) (b : Bool) → length (cond b (e ∷ rest) rest) ≤ length rest + 1
  kept e rest true = omega arith
  kept e rest false = omega arith

  count_within : (es : List Entry) → count_of has es ≤ length es
  count_within [] = omega arith
  count_within (e ∷ es) = omega (arith, count_within es, kept e (filter test es) (has e.verdict))

pub within : (es : List Entry) → AreWithin (verdict_counts es)
within es = record { accepted = count_within is_accepted es; invalid = count_within is_invalid es; full = count_within is_full es }

one_more : (es : List Entry) (e : Entry) → length (es ++ e ∷ []) ≡ length es + 1
one_more es e = length-append es (e ∷ [])

counts_next : (es : List Entry) (e : Entry) (v : Verdict) → e.verdict ≡ v → verdict_counts (es ++ e ∷ []) ≡ counted (verdict_counts es) v
counts_next es e Accepted is = λ i. record {
  entries = one_more es e i;
  accepted = count_up is_accepted es e (ap is_accepted is) i;
  invalid = count_same is_invalid es e (ap is_invalid is) i;
  full = count_same is_full es e (ap is_full is) i;
}
counts_next es e (Invalid reason) is = λ i. record {
  entries = one_more es e i;
  accepted = count_same is_accepted es e (ap is_accepted is) i;
  invalid = count_up is_invalid es e (ap is_invalid is) i;
  full = count_same is_full es e (ap is_full is) i;
}
counts_next es e (Full table) is = λ i. record {
  entries = one_more es e i;
  accepted = count_same is_accepted es e (ap is_accepted is) i;
  invalid = count_same is_invalid es e (ap is_invalid is) i;
  full = count_up is_full es e (ap is_full is) i;
}

module _ (es : List Entry) (i : ℕ) (counts : VerdictCounts) (before : counts ≡ verdict_counts (take i es)) where
  pub within_so_far : AreWithin counts
  within_so_far = subst AreWithin (sym before) (within (take i es))

  pub entries_so_far : i < length es → counts.entries ≡ i
  entries_so_far there = ap (λ (c : VerdictCounts). c.entries) before ∙ length-take-le i es (omega (arith, there))

  -- the entry at a place is counted
  pub counted_at : (entry : Entry) (next : VerdictCounts) → Some entry ≡ slice_get es i → next ≡ counted counts entry.verdict → next ≡ verdict_counts (take (i + 1) es)
  counted_at entry next found is =
      is ∙ ap (λ (c : VerdictCounts). counted c entry.verdict) before ∙ sym (counts_next (take i es) entry entry.verdict refl)
      ∙ ap (λ (l : List Entry). verdict_counts (take i es ++ l)) (sym (at_place es i entry (sym found))) ∙ ap verdict_counts (sym (take_more es i))

take_past : {X : Type 0} (xs : List X) (n : ℕ) → length xs ≤ n → take n xs ≡ xs
take_past [] zero le = refl
take_past [] (suc n) le = refl
take_past (x ∷ xs) zero le = absurd (omega (arith, le))
take_past {X} (x ∷ xs) (suc n) le = ap (λ (l : List X). x ∷ l) (take_past xs n (omega (arith, le)))

-- all are counted
pub counted_all : (es : List Entry) (i : ℕ) (counts : VerdictCounts) → length es ≤ i → counts ≡ verdict_counts (take i es) → counts ≡ verdict_counts es
counted_all es i counts past is = is ∙ ap verdict_counts (take_past es i past)
