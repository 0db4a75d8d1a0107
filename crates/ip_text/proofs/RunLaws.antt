-- The longest run of zero groups is one run, and the printed form compresses that one.
use Rattle.std.proofs.Common.{◌≡◌, ◌≤◌, ◌<◌, ◌+◌, ℕ, suc, zero, List, [], ◌∷◌, ◌++◌, take, drop, nat_lt, nat_le, refl, sym, ap, subst, ◌∙◌, inl, inr, arith, append_assoc}
use Rattle.std.proofs.lemmas.Bool.{cases_lt, cond-true, cond-false, lt-ltb}
use Rattle.std.proofs.lemmas.Bool.Decides.{nat_tests}
use Rattle.ip_text.specs.Printed.{zeros_before, Run, longest_run, groups_text, compressed_text}
use Rattle.ip_text.specs.Runs.{zeros_at, IsRun}

no_zeros : (i : ℕ) → zeros_at [] i ≡ 0
no_zeros zero = refl
no_zeros (suc i) = refl

-- the run of a list is that of its tail, or begins at its first group
run_after : (g : ℕ) (gs : List ℕ) (start count : ℕ) → IsRun gs start count → zeros_before (g ∷ gs) < count → IsRun (g ∷ gs) (suc start) count
run_after g gs start count later less = record {
  here = later.here;
  most = most;
  first = first;
}
  where
    most : (i : ℕ) → zeros_at (g ∷ gs) i ≤ count
    most zero = omega arith
    most (suc i) = later.most i

    first : (i : ℕ) → i < suc start → zeros_at (g ∷ gs) i < count
    first zero lt = less
    first (suc i) lt = later.first i (omega arith)

run_here : (g : ℕ) (gs : List ℕ) (start count : ℕ) → IsRun gs start count → count ≤ zeros_before (g ∷ gs) → IsRun (g ∷ gs) 0 (zeros_before (g ∷ gs))
run_here g gs start count later le = record {
  here = refl;
  most = most;
  first = λ i lt. absurd (omega arith);
}
  where
    most : (i : ℕ) → zeros_at (g ∷ gs) i ≤ zeros_before (g ∷ gs)
    most zero = omega arith
    most (suc i) = omega (arith, later.most i)

abbrev RunOf : List ℕ → Run → Type 0
RunOf groups run = IsRun groups run.start run.count

pub longest_is : (groups : List ℕ) → RunOf groups (longest_run groups)
longest_is [] = record { here = refl; most = λ i. omega (arith, no_zeros i); first = λ i lt. absurd (omega arith) }
longest_is (g ∷ gs) =
    let later = longest_run gs in
    let here = zeros_before (g ∷ gs) in
    let is = longest_is gs in
    let at_here : Run = record { start = 0; count = here } in
    let at_later : Run = record { start = later.start + 1; count = later.count } in
    elim (cases_lt here later.count) [
      | inl less ↦
          subst (RunOf (g ∷ gs)) (sym (cond-false (nat_le later.count here) at_here at_later (grind (arith, nat_tests))))
          (subst (λ (n : ℕ). IsRun (g ∷ gs) n later.count) (omega arith) (run_after g gs later.start later.count is less))
      | inr le ↦
          subst (RunOf (g ∷ gs)) (sym (cond-true (nat_le later.count here) at_here at_later (grind (arith, nat_tests))))
          (run_here g gs later.start later.count is le)
    ]

-- one run is not before the other
not_before : (groups : List ℕ) (s c t d : ℕ) → IsRun groups s c → IsRun groups t d → s < t → ⊥
not_before groups s c t d first second less = omega (arith, first.here, second.here, second.first s less, first.most t)

pub run_unique : (groups : List ℕ) (s c t d : ℕ) → IsRun groups s c → IsRun groups t d → (s ≡ t) × (c ≡ d)
run_unique groups s c t d first second =
    elim (cases_lt s t) [
      | inl less ↦ absurd (not_before groups s c t d first second less)
      | inr le ↦ elim (cases_lt t s) [
        | inl less ↦ absurd (not_before groups t d s c second first less)
        | inr other ↦ let same : s ≡ t = omega arith in (same, sym first.here ∙ ap (zeros_at groups) same ∙ second.here)
      ]
    ]

same_run : (groups : List ℕ) (start count : ℕ) → IsRun groups start count → (let run : Run = record { start = start; count = count } in longest_run groups ≡ run)
same_run groups start count is =
    let found = longest_run groups in
    let same = run_unique groups found.start found.count start count (longest_is groups) is in
    ap (λ (n : ℕ). let r : Run = record { start = n; count = found.count } in r) same.0 ∙ ap (λ (n : ℕ). let r : Run = record { start = start; count = n } in r) same.1

pub printed_whole : (groups : List ℕ) (start count : ℕ) → IsRun groups start count → count < 2 → groups_text groups ≡ compressed_text groups (longest_run groups)
printed_whole groups start count is less =
    sym (ap (compressed_text groups) (same_run groups start count is) ∙ cond-true (nat_lt count 2) (groups_text groups) (groups_text (take start groups) ++ 58 ∷ 58 ∷ groups_text (drop (start + count) groups)) (lt-ltb count 2 less))

pub printed_parts : (groups left right : List ℕ) (start count : ℕ) → IsRun groups start count → 2 ≤ count → left ≡ take start groups → right ≡ drop (start + count) groups → ((groups_text left ++ 58 ∷ []) ++ 58 ∷ []) ++ groups_text right ≡ compressed_text groups (longest_run groups)
printed_parts groups left right start count is le e f =
    append_assoc (groups_text left ++ 58 ∷ []) (58 ∷ []) (groups_text right) ∙ append_assoc (groups_text left) (58 ∷ []) (58 ∷ groups_text right)
    ∙ ap (λ l. groups_text l ++ 58 ∷ 58 ∷ groups_text right) e ∙ ap (λ l. groups_text (take start groups) ++ 58 ∷ 58 ∷ groups_text l) f
    ∙ sym (ap (compressed_text groups) (same_run groups start count is) ∙ cond-false (nat_lt count 2) (groups_text groups) (groups_text (take start groups) ++ 58 ∷ 58 ∷ groups_text (drop (start + count) groups)) (grind (arith, nat_tests)))
