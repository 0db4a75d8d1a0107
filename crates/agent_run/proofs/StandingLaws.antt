-- Where observers stand.
use Rattle.std.proofs.Common.{◌≡◌, ◌≤◌, ◌+◌, ◌⊎◌, ℕ, zero, suc, Bool, true, false, None, Some, Result, Ok, Err, OnOk, List, [], ◌∷◌, ◌++◌, length, map, take, drop, inl, refl, sym, ap, ◌∙◌, arith}
use Rattle.std.proofs.lemmas.List.{append-nil, length-map}
use Rattle.std.specs.List.{AllByRecursion, AllZip, slice_get}
use Rattle.std.specs.Option.{option_map}
use Rattle.core_laws.specs.Audience.{IsLatest, IsStanding}
use Rattle.journal_laws.proofs.EndLaws.{upto_prefix_same}
use Rattle.observers.specs.Watch.{Watch}
use Rattle.run_outcome.specs.Reports.{IsStandingOf}
use Rattle.switch_model.specs.declared.record.Totals.{Totals}
use Rattle.switch_model.specs.Journal.{Journal, IsRoundEnd, entries_of, fold, len, rounds_upto, upto, version_of}
use Rattle.switch_model.specs.Totals.{totals}
use Rattle.agent_run.specs.Standing.{standing_of, sures_of}

-- one standing more is listed

module _ {O : Type 0} (watch : O → Watch) where
  abbrev standing : O → ℕ × Totals
  standing o = ((watch o).version, (watch o).totals)

  pub next_there : (items : List O) (n : ℕ) (s : ℕ × Totals) → Some s ≡ option_map standing (slice_get items n) → s ∷ [] ≡ take 1 (drop n (map standing_of (map watch items)))
  next_there [] zero s is = absurd cc
  next_there [] (suc n) s is = absurd cc
  next_there (x ∷ xs) zero s is = let same : s ≡ standing x = cc in ap (λ (t : ℕ × Totals). t ∷ []) same
  next_there (x ∷ xs) (suc n) s is = next_there xs n s is

  pub next_none : (items : List O) (n : ℕ) → None ≡ option_map standing (slice_get items n) → [] ≡ take 1 (drop n (map standing_of (map watch items)))
  next_none [] zero is = refl
  next_none [] (suc n) is = refl
  next_none (x ∷ xs) zero is = absurd cc
  next_none (x ∷ xs) (suc n) is = next_none xs n is

  pub listed_all : (items : List O) (n : ℕ) (list : List (ℕ × Totals)) → length items ≤ n → list ≡ take n (map standing_of (map watch items)) → list ≡ map standing_of (map watch items)
  listed_all items n list past is = is ∙ take_past n (map standing_of (map watch items)) (let e = length-map (map watch items) standing_of in let f = length-map items watch in omega (arith, e, f, past))
    where
      take_past : (n : ℕ) (xs : List (ℕ × Totals)) → length xs ≤ n → take n xs ≡ xs
      take_past zero [] le = refl
      take_past zero (x ∷ xs) le = absurd (omega (arith, le))
      take_past (suc n) [] le = refl
      take_past (suc n) (x ∷ xs) le = ap (λ (l : List (ℕ × Totals)). x ∷ l) (take_past n xs (omega (arith, le)))

take_next : (n : ℕ) (xs : List (ℕ × Totals)) → take n xs ++ take 1 (drop n xs) ≡ take (suc n) xs
take_next zero [] = refl
take_next zero (x ∷ xs) = refl
take_next (suc n) [] = refl
take_next (suc n) (x ∷ xs) = ap (λ (l : List (ℕ × Totals)). x ∷ l) (take_next n xs)

pub listed_next : (n : ℕ) (before after all : List (ℕ × Totals)) → before ≡ take n all → after ≡ before ++ take 1 (drop n all) → after ≡ take (n + 1) all
listed_next n before after all so_far is =
    let e : suc n ≡ n + 1 = omega arith in
    is ∙ ap (λ (l : List (ℕ × Totals)). l ++ take 1 (drop n all)) so_far ∙ take_next n all ∙ ap (λ (k : ℕ). take k all) e

pub put_none : (before after next : List (ℕ × Totals)) → after ≡ before → [] ≡ next → after ≡ before ++ next
put_none before after next same none = same ∙ sym (append-nil before) ∙ ap (λ (l : List (ℕ × Totals)). before ++ l) none

pub put_one : (before after next : List (ℕ × Totals)) (s : ℕ × Totals) → after ≡ before ++ s ∷ [] → s ∷ [] ≡ next → after ≡ before ++ next
put_one before after next s is one = is ∙ ap (λ (l : List (ℕ × Totals)). before ++ l) one

pub put_if : {A E : Type 0} (r : Result A E) (before after next : List (ℕ × Totals)) (s : ℕ × Totals) → OnOk r (after ≡ before ++ s ∷ []) → s ∷ [] ≡ next → OnOk r (after ≡ before ++ next)
put_if (Ok x) before after next s is one = put_one before after next s is one
put_if (Err e) before after next s is one = tt

-- at the end of a journal

upto_all : (j : Journal) → upto j (len j) ≡ j
upto_all j =
    let same : rounds_upto (length (entries_of j.rounds)) j.rounds ≡ j.rounds = ap (rounds_upto (length (entries_of j.rounds))) (sym (append-nil j.rounds)) ∙ upto_prefix_same j.rounds [] tt in
    λ i. record { opening = j.opening; rounds = same i }

whole_end : (j : Journal) → IsRoundEnd j (len j)
whole_end j = (j.rounds, ([], sym (append-nil j.rounds)), refl)

stands_as : (j : Journal) (w : Watch) (b : Bool) → w.sure ≡ b → IsStanding j w → ((w.sure ≡ true) ⊎ (w.refusals ≡ 0) → IsLatest j w) → IsStandingOf j b (standing_of w)
stands_as j w true is standing latest =
    let last : IsLatest j w = latest (inl is) in
    record {
      front = len j;
      end = whole_end j;
      version = last.version ∙ ap version_of (sym (upto_all j));
      counts = last.totals ∙ ap (λ (k : Journal). totals (fold k)) (sym (upto_all j));
      latest = λ e. refl;
    }
stands_as j w false is standing latest = record { front = standing.front; end = standing.end; version = standing.version; counts = standing.totals; latest = λ e. absurd cc }

-- each observer stands where the report says
pub all_stand : (j : Journal) (ws : List Watch) → AllByRecursion (IsStanding j) ws → AllByRecursion (λ w. (w.sure ≡ true) ⊎ (w.refusals ≡ 0) → IsLatest j w) ws → AllZip (IsStandingOf j) (sures_of ws) (map standing_of ws)
all_stand j [] standing latest = tt
all_stand j (w ∷ ws) standing latest = (stands_as j w w.sure refl standing.0 latest.0, all_stand j ws standing.1 latest.1)
