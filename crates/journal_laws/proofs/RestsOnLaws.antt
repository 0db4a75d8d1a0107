-- How much of what was submitted a journal rests on.
use Rattle.std.proofs.Common.{◌≡◌, ◌≢◌, ◌≤◌, ◌+◌, ◌-◌, ℕ, List, [], ◌∷◌, ◌++◌, Option, None, Some, length, map, take, drop, inl, inr, refl, sym, ap, subst, ◌∙◌, append_assoc, append-nil, lit≤, arith}
use Rattle.std.proofs.lemmas.List.{drop_at, drop-take, length-append, length-map, length-take, take-take, take_all}
use Rattle.std.specs.List.{AllByRecursion}
use Rattle.net_types.specs.declared.table.Caps.{Caps}
use Rattle.net_types.specs.declared.table.Table.{Table}
use Rattle.net_types.specs.Capacity.{over, Fits}
use Rattle.switch_model.specs.declared.act.Submission.{Submission}
use Rattle.switch_model.specs.declared.journal.Entry.{Entry}
use Rattle.switch_model.specs.declared.journal.Round.{Round}
use Rattle.switch_model.specs.declared.journal.RoundKind.{RoundKind}
use Rattle.switch_model.specs.declared.journal.RoundKind.TheVariants.{Whole, One}
use Rattle.switch_model.specs.declared.verdict.Reason.{Reason}
use Rattle.switch_model.specs.declared.verdict.Verdict.{Verdict}
use Rattle.switch_model.specs.declared.verdict.Verdict.TheVariants.{Accepted, Invalid, Full}
use Rattle.switch_model.specs.Effect.{effect}
use Rattle.keyed.specs.Cases.{some_none}
use Rattle.keyed.specs.Prefix.{IsPrefix, prefix_length, prefix_take, prefix_trans, prefix_whole, prefix_between, take_prefix}
use Rattle.switch_model.specs.Journal.{Journal, after_verdict, entries_of, fold, len, pending, strip, submission_of, version_of, with_round}
use Rattle.switch_model.specs.Legal.{IsLegal}
use Rattle.switch_model.specs.PlainState.{PlainState}
use Rattle.switch_model.specs.MayComeOf.{MayComeOf, SettlesNext, AllSettleNext}
use Rattle.switch_model.specs.Reason.{reason}
use Rattle.switch_model.specs.Round.{verdict_in_run, next_round, run, settled, verdict_alone}
use Rattle.switch_model.specs.Rows.{rows}
use Rattle.journal_laws.specs.Trying.{FoundFull, StandsAlone}
use Rattle.journal_laws.proofs.EndLaws.{journal_prefix_push}
use Rattle.journal_laws.proofs.LegalLaws.{legal_fits, legal_prefix, legal_push, legal_some}
use Rattle.journal_laws.proofs.MayComeLaws.{next_settles}
use Rattle.journal_laws.proofs.RoundLaws.{len_push, length-strip, strip_push}
use Rattle.journal_laws.proofs.RunLaws.{run-run, run_prefix, run_short, run_single, run_some}
use Rattle.journal_laws.proofs.SettledLaws.{settled_as, verdict_alone-full}

-- a round needs no more of what is pending than its run

run_taken : (sent : List Submission) (j : Journal) (n : ℕ) → 1 ≤ n → n ≤ length (pending sent j) → let q : List Submission = run (take n (pending sent j)) in take (length q) (pending sent j) ≡ q
run_taken sent j n some within =
    let p : List Submission = take n (pending sent j) in
    sym (prefix_take (run p) (pending sent j) (prefix_trans (run p) p (pending sent j) (run_prefix p) (take_prefix n (pending sent j))))

taken_pending : (sent : List Submission) (j : Journal) (k m : ℕ) → len j + k ≤ m → take k (pending (take m sent) j) ≡ take k (pending sent j)
taken_pending sent j k m within =
    let left : ℕ = m - len j in
    let more : len j + left ≡ m = omega (arith, within) in
    ap (take k) (ap (λ (n : ℕ). drop (len j) (take n sent)) (sym more) ∙ drop-take (len j) left sent)
    ∙ take-take k left (pending sent j) (omega (arith, within))

pub settles_least : (sent : List Submission) (m : ℕ) (j : Journal) (r : Round) → (s : SettlesNext sent j r) → len j + length (run (take s.0 (pending sent j))) ≤ m → SettlesNext (take m sent) j r
settles_least sent m j r s within =
    let p : List Submission = take s.0 (pending sent j) in
    let q : List Submission = run p in
    let some_p : 1 ≤ length p = omega (arith, length-take s.0 (pending sent j), s.1, s.3) in
    let some : 1 ≤ length q = run_some p some_p in
    let taken : take (length q) (pending (take m sent) j) ≡ q = taken_pending sent j (length q) m within ∙ run_taken sent j s.0 s.1 s.3 in
    let long : length (take (length q) (pending (take m sent) j)) ≡ length q = ap length taken in
    let enough : length q ≤ length (pending (take m sent) j) = omega (arith, long, length-take (length q) (pending (take m sent) j)) in
    (length q, some, run_short p, enough, s.4 ∙ ap (next_round j) (sym (ap run taken ∙ run-run p some_p)))

-- what 63 more than are settled say

all_settle_63 : (sent : List Submission) (m : ℕ) (j : Journal) (rs : List Round) → AllSettleNext sent j rs → AllByRecursion (λ (r : Round). 1 ≤ length r.entries) rs → len j + length (entries_of rs) + 63 ≤ m → AllSettleNext (take m sent) j rs
all_settle_63 sent m j [] all some within = tt
all_settle_63 sent m j (r ∷ rs) all some within =
    let short = run_short (take all.0.0 (pending sent j)) in
    let sum = length-append r.entries (entries_of rs) in
    let more = len_push j r in
    (settles_least sent m j r all.0 (omega (arith, short, sum, some.0, within)), all_settle_63 sent m (with_round j r) rs all.1 some.1 (omega (arith, more, sum, within)))

prefix_taken : (sent : List Submission) (j : Journal) (m : ℕ) → IsPrefix (strip j) sent → len j ≤ m → IsPrefix (strip j) (take m sent)
prefix_taken sent j m f within =
    let long = prefix_length (strip j) sent f in
    let size = length-strip j in
    prefix_between (strip j) (take m sent) sent f (take_prefix m sent) (omega (arith, long, size, within, length-take m sent))

-- a journal rests on no more than the 63 submissions behind those that it settles
pub may_come_63 : (sent : List Submission) (j : Journal) → MayComeOf sent j → MayComeOf (take (len j + 63) sent) j
may_come_63 sent j old = record {
  legal = old.legal;
  settled = prefix_taken sent j (len j + 63) old.settled (omega arith);
  rounds = all_settle_63 sent (len j + 63) (record j { rounds = [] }) j.rounds old.rounds (legal_some j old.legal) (omega arith);
}

-- where nothing is pending
pub may_come_settled : (sent : List Submission) (j : Journal) → MayComeOf sent j → length sent ≤ len j → MayComeOf (strip j) j
may_come_settled sent j old few =
    let whole : strip j ≡ sent = prefix_whole (strip j) sent old.settled (omega (arith, few, length-strip j)) in
    subst (λ (l : List Submission). MayComeOf l j) (sym whole) old

-- an update that found a table full by itself would have found it with others behind it, and the other way round

in_run_full : (o : Option Reason) (t : Table) → verdict_in_run o ≡ Full t → ⊥
in_run_full None t e = let never : (Accepted ≡ Full t) → ⊥ = λ h. cc in never e
in_run_full (Some r) t e = let never : (Invalid r ≡ Full t) → ⊥ = λ h. cc in never e

first_verdict : List Entry → Verdict
first_verdict [] = Accepted
first_verdict (e ∷ es) = e.verdict

full_first : (r : Round) (found : FoundFull r) → first_verdict r.entries ≡ Full found.1
unfolding first_verdict
full_first r found = ap first_verdict found.2 ∙ found.3

full_alone : (m : PlainState) (v : ℕ) (caps : Caps) (s : Submission) (ss : List Submission) → FoundFull (settled m v caps (s ∷ ss)) → settled m v caps (s ∷ []) ≡ settled m v caps (s ∷ ss)
unfolding first_verdict
full_alone m v caps s ss found = elim (settled_as m v caps (s ∷ ss)) [
  | inl whole ↦
      let first : verdict_in_run (reason m s.update) ≡ Full found.1 = ap (λ (r : Round). first_verdict r.entries) (sym whole.1) ∙ full_first (settled m v caps (s ∷ ss)) found in
      absurd (in_run_full (reason m s.update) found.1 first)
  | inr one ↦
      let first : verdict_alone (reason m s.update) (over (rows (effect m s.update.act)) caps) ≡ Full found.1 = ap (λ (r : Round). first_verdict r.entries) (sym one.1) ∙ full_first (settled m v caps (s ∷ ss)) found in
      let both = (verdict_alone-full (reason m s.update) (over (rows (effect m s.update.act)) caps) found.1).0 first in
      elim (settled_as m v caps (s ∷ [])) [
        | inl whole ↦
            let fits : over (rows (effect m s.update.act)) caps ≡ None = subst (λ (o : Option Reason). over (rows (after_verdict m s.update (verdict_in_run o))) caps ≡ None) both.0 whole.0 in
            absurd (some_none (sym both.1 ∙ fits))
        | inr single ↦ single.1 ∙ sym one.1
      ]
]

found_by : (m : PlainState) (v : ℕ) (caps : Caps) (s : Submission) (o : Option Reason) (t : Option Table) → Fits (rows m) caps → over (rows (effect m s.update.act)) caps ≡ t → over (rows (after_verdict m s.update (verdict_in_run o))) caps ≢ None → (table : Table) × (verdict_alone o t ≡ Full table)
found_by m v caps s (Some r) t fits e ne = absurd (ne fits)
found_by m v caps s None None fits e ne = absurd (ne e)
found_by m v caps s None (Some table) fits e ne = (table, refl)

-- so what one submission gives stands alone
alone_stands : (m : PlainState) (v : ℕ) (caps : Caps) (s : Submission) → Fits (rows m) caps → StandsAlone (settled m v caps (s ∷ []))
alone_stands m v caps s fits = elim (settled_as m v caps (s ∷ [])) [
  | inl whole ↦ inl (ap (λ (r : Round). r.kind) whole.1)
  | inr one ↦
      let found = found_by m v caps s (reason m s.update) (over (rows (effect m s.update.act)) caps) fits refl one.0 in
      inr (subst FoundFull (sym one.1) (_, found.0, refl, found.1))
]

-- such a round needs no more than its own submissions

no_one : {k : RoundKind} → k ≡ Whole → k ≡ One → ⊥
no_one {k} a b = let never : (Whole ≡ One) → ⊥ = λ h. cc in never (sym a ∙ b)

first_some : (l : List Submission) → 1 ≤ length l → (s : Submission) × (ss : List Submission) × (l ≡ s ∷ ss)
first_some [] some = absurd (omega (arith, some))
first_some (s ∷ ss) some = (s, ss, refl)

settles_alone : (sent : List Submission) (m : ℕ) (j : Journal) (r : Round) → IsLegal j → SettlesNext sent j r → StandsAlone r → 1 ≤ length r.entries → len j + length r.entries ≤ m → SettlesNext (take m sent) j r
settles_alone sent m j r legal s stands some within =
    let pend : List Submission = pending sent j in
    let q : List Submission = run (take s.0 pend) in
    let st = next_settles sent j r legal s in
    elim stands [
      | inl whole ↦ elim st.has [
        | inl both ↦
            let count : length r.entries ≡ length q = sym (length-map r.entries submission_of) ∙ ap length both.1 in
            settles_least sent m j r s (omega (arith, count, within))
        | inr both ↦ absurd (no_one whole both.0)
      ]
      | inr found ↦
          let some_p : 1 ≤ length (take s.0 pend) = omega (arith, length-take s.0 pend, s.1, s.3) in
          let first = first_some q (run_some (take s.0 pend) some_p) in
          let x : Submission = first.0 in
          let taken : take 1 (pending (take m sent) j) ≡ x ∷ [] =
          taken_pending sent j 1 m (omega (arith, some, within))
          ∙ sym (take-take 1 (length q) pend (run_some (take s.0 pend) some_p))
          ∙ ap (take 1) (run_taken sent j s.0 s.1 s.3 ∙ first.2) in
          let is : r ≡ settled (fold j) (version_of j) j.opening.caps (x ∷ first.1) = s.4 ∙ ap (next_round j) first.2 in
          let same : next_round j (x ∷ []) ≡ r = full_alone (fold j) (version_of j) j.opening.caps x first.1 (subst FoundFull is found) ∙ sym is in
          let enough : 1 ≤ length (pending (take m sent) j) = let long : length (take 1 (pending (take m sent) j)) ≡ 1 = ap length taken in omega (arith, long, length-take 1 (pending (take m sent) j)) in
          (1, lit≤ tt, lit≤ tt, enough, sym same ∙ ap (next_round j) (sym (ap run taken ∙ run_single x)))
    ]

all_settle_alone : (sent : List Submission) (m : ℕ) (j : Journal) (rs : List Round) → IsLegal j → AllSettleNext sent j rs → AllByRecursion StandsAlone rs → len j + length (entries_of rs) ≤ m → AllSettleNext (take m sent) j rs
all_settle_alone sent m j [] legal all stands within = tt
all_settle_alone sent m j (r ∷ rs) legal all stands within =
    let st = next_settles sent j r legal all.0 in
    let sum = length-append r.entries (entries_of rs) in
    let more = len_push j r in (
      settles_alone sent m j r legal all.0 stands.0 st.some (omega (arith, sum, within)),
      all_settle_alone sent m (with_round j r) rs (legal_push j r legal st.right) all.1 stands.1 (omega (arith, more, sum, within)),
    )

-- where each round stands alone, the journal comes of its own submissions
pub may_come_alone : (sent : List Submission) (j : Journal) → MayComeOf sent j → AllByRecursion StandsAlone j.rounds → MayComeOf (strip j) j
may_come_alone sent j old stands =
    let own : take (len j) sent ≡ strip j = ap (λ (n : ℕ). take n sent) (sym (length-strip j)) ∙ sym (prefix_take (strip j) sent old.settled) in
    subst (λ (l : List Submission). MayComeOf l j) own (record {
      legal = old.legal;
      settled = prefix_taken sent j (len j) old.settled (omega arith);
      rounds = all_settle_alone sent (len j) (record j { rounds = [] }) j.rounds (old.legal.0, tt) old.rounds stands (omega arith);
    })

-- and a last round that doesn't stand alone rests on more than is settled

all_settle_last : (sent : List Submission) (j : Journal) (rs : List Round) (r : Round) → AllSettleNext sent j (rs ++ r ∷ []) → SettlesNext sent (record j { rounds = j.rounds ++ rs }) r
all_settle_last sent j [] r all = subst (λ (l : List Round). SettlesNext sent (record j { rounds = l }) r) (sym (append-nil j.rounds)) all.0
all_settle_last sent j (x ∷ rs) r all = subst (λ (l : List Round). SettlesNext sent (record j { rounds = l }) r) (append_assoc j.rounds (x ∷ []) rs) (all_settle_last sent (with_round j x) rs r all.1)

pub may_come_last : (sent : List Submission) (j : Journal) (r : Round) → MayComeOf sent (with_round j r) → SettlesNext sent j r
may_come_last sent j r old = all_settle_last sent (record j { rounds = [] }) j.rounds r old.rounds

own_pending : (j : Journal) (r : Round) → pending (strip (with_round j r)) j ≡ map submission_of r.entries
own_pending j r = ap (drop (len j)) (strip_push j r) ∙ drop_at (strip j) (map submission_of r.entries) (len j) (length-strip j)

only_one : (l : List Submission) → length l ≡ 1 → (s : Submission) × (l ≡ s ∷ [])
only_one [] one = absurd (let never : (0 ≡ 1) → ⊥ = λ h. omega (arith, h) in never one)
only_one (s ∷ []) one = (s, refl)
only_one (s ∷ t ∷ ss) one = absurd (omega (arith, one))

take_single : (l : List Submission) (n : ℕ) → length l ≡ 1 → 1 ≤ n → take n l ≡ l
take_single l n one some = take_all n l (omega (arith, one, some))

pub last_alone : (j : Journal) (r : Round) → MayComeOf (strip (with_round j r)) (with_round j r) → StandsAlone r
last_alone j r all =
    let sent : List Submission = strip (with_round j r) in
    let legal : IsLegal j = legal_prefix j (with_round j r) (journal_prefix_push j r) all.legal in
    let s : SettlesNext sent j r = may_come_last sent j r all in
    let pend : List Submission = pending sent j in
    let st = next_settles sent j r legal s in
    elim st.has [
      | inl whole ↦ inl whole.0
      | inr one ↦
          let q : List Submission = run (take s.0 pend) in
          let own : pend ≡ take 1 q = own_pending j r ∙ one.1 in
          let few : length pend ≡ 1 = let e = ap length own in omega (arith, e, length-take 1 q, st.some, st.at_most) in
          let only = only_one pend few in
          let tried_is : take s.0 pend ≡ only.0 ∷ [] = take_single pend s.0 few s.1 ∙ only.1 in
          let is : r ≡ settled (fold j) (version_of j) j.opening.caps (only.0 ∷ []) = s.4 ∙ ap (λ (l : List Submission). next_round j (run l)) tried_is ∙ ap (next_round j) (run_single only.0) in
          subst StandsAlone (sym is) (alone_stands (fold j) (version_of j) j.opening.caps only.0 (legal_fits j legal))
    ]
