-- Tests of which none holds.
use Rattle.std.specs.Prelude.{◌≡◌, Bool, false, List, [], ◌∷◌}

-- each of the tests fails, whatever it is a test for
abbrev pub NoneHolds : {A : Type 0} → List (A × Bool) → Type 0
NoneHolds [] = Unit {0}
NoneHolds (x ∷ xs) = (x.1 ≡ false) × NoneHolds xs
