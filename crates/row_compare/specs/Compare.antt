-- Changes of rows that differ.
use Rattle.std.specs.Prelude.{◌≡◌, Bool, List, [], ◌∷◌, if◌then◌else◌}
use Rattle.std.specs.Bool.{Decides}
use Rattle.std.specs.Option.{option_eq}
use Rattle.chip_core.specs.ChangeLists.{Change}

-- the change of a key, where its rows differ by the test
abbrev pub change_of : {K V : Type 0} → (V → V → Bool) → Change K V → List (Change K V)
change_of same c = if option_eq same c.1 c.2 then [] else c ∷ []

-- the test tells rows apart
abbrev pub IsTest : {V : Type 0} → (V → V → Bool) → Type 0
IsTest {V} same = (x y : V) → Decides (same x y) (x ≡ y)
