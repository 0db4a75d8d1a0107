-- Tests of which none holds.
use Rattle.std.proofs.Common.{◌≡◌, Bool, List, [], ◌∷◌, None, Some, refl, inl, inr}
use Rattle.std.proofs.lemmas.Bool.{cases_Bool}
use Rattle.keyed.specs.Tests.{NoneHolds}
use Rattle.switch_model.specs.First.{first_that_holds}

pub none_holds : {A : Type 0} (xs : List (A × Bool)) → first_that_holds xs ≡ None → NoneHolds xs
none_holds [] h = tt
none_holds (x ∷ xs) h = elim (cases_Bool x.1) [
  | inl yes_it ↦ let no : Some x.0 ≡ None = rw yes_it at h in absurd (cc)
  | inr no_it ↦ let rest : first_that_holds xs ≡ None = rw no_it at h in (no_it, none_holds xs rest)
]

pub holds_none : {A : Type 0} (xs : List (A × Bool)) → NoneHolds xs → first_that_holds xs ≡ None
holds_none [] h = refl
holds_none (x ∷ xs) h = rw h.0 (holds_none xs h.1)
