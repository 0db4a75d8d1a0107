-- The key that comes next.
use Rattle.std.specs.Prelude.{ℕ, ◌<◌, ◌≤◌, Contains, List, Option, None, Some}
use Rattle.std.specs.Ordering.{nat_cmp}
use Rattle.keyed.specs.Ranges.{keys_past}

-- past the last key that was seen, where there is one
abbrev pub IsPast : Option ℕ → ℕ → Type 0
IsPast None k = Unit {0}
IsPast (Some last) k = last < k

-- the least of the keys past the last one that was seen, or none where there is no such key
abbrev pub IsNext : Option ℕ → List ℕ → Option ℕ → Type 0
IsNext last ks None = (y : ℕ) → Contains ks y → IsPast last y → ⊥
IsNext last ks (Some k) = Contains ks k × IsPast last k × ((y : ℕ) → Contains ks y → IsPast last y → k ≤ y)

-- the keys that are left after the last one that was seen
abbrev pub keys_left : Option ℕ → List ℕ → List ℕ
keys_left None ks = ks
keys_left (Some last) ks = keys_past nat_cmp last ks
