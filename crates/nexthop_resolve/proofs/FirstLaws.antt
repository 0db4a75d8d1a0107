-- The first items of a list.
use Rattle.std.proofs.Common.{◌≡◌, ◌<◌, ◌≤◌, ◌==◌, ℕ, Bool, false, List, length, min, take, ap, sym, ◌∙◌, inl, inr, arith}
use Rattle.std.proofs.lemmas.Bool.{cases_lt}
use Rattle.std.proofs.lemmas.Bool.Decides.{nat_tests}
use Rattle.std.proofs.lemmas.List.{take_all}

pub take_least : {A : Type 0} (n k : ℕ) (xs : List A) → k ≡ min (length xs) n → take k xs ≡ take n xs
take_least n k xs is = elim (cases_lt n (length xs)) [
  | inl more ↦ let same : k ≡ n = omega arith in ap (λ (i : ℕ). take i xs) same
  | inr all ↦ let within : length xs ≤ k = omega arith in take_all k xs within ∙ sym (take_all n xs all)
]

pub some-from_test : (n : ℕ) (empty : Bool) → empty ≡ (n == 0) → empty ≡ false → 0 < n
some-from_test n empty is not = grind (arith, nat_tests)
