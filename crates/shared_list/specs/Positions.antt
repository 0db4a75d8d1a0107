-- Entries whose keys count up from 0: a list.
use Rattle.std.specs.Prelude.{◌≡◌, ℕ, suc, List, [], ◌∷◌, length}
use Rattle.node_map.specs.TreeNode.{Entries}

-- the values, in order
abbrev pub values_of : {T : Type 0} → Entries T → List T
values_of [] = []
values_of (e ∷ es) = e.1.value ∷ values_of es

-- each key is its place, counted from the number
abbrev pub AreCounted : {T : Type 0} → ℕ → Entries T → Type 0
AreCounted n [] = Unit {0}
AreCounted n (e ∷ es) = (e.0 ≡ n) × AreCounted (suc n) es

-- the entries are those of so many places
pub record HasLength {T : Type 0} (n : ℕ) (es : Entries T) : Type 0 where
  pub counted : AreCounted 0 es
  pub length : length es ≡ n
