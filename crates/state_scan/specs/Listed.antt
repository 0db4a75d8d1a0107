-- A map as the list of a part.
use Rattle.std.specs.Prelude.{ℕ, List, map}
use Rattle.node_map.specs.TreeNode.{Entries}

-- the entries as keys, each read from its number, and values
abbrev pub listed : {K T : Type 0} → (ℕ → K) → Entries T → List (K × T)
listed of entries = map (λ e. (of e.0, e.1.value)) entries
