-- Tests in an order.
use Rattle.std.specs.Prelude.{Bool, Option, None, Some, List, [], ◌∷◌, if◌then◌else◌}

-- the first whose test holds
abbrev pub first_that_holds : {A : Type 0} → List (A × Bool) → Option A
first_that_holds [] = None
first_that_holds (x ∷ xs) = if x.1 then Some x.0 else first_that_holds xs
