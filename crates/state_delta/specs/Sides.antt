-- A tree, or none, as a list of entries and a list of nodes; and trees that agree where they meet.
use Rattle.std.specs.Prelude.{◌≡◌, List, [], Contains, Option, None, Some}
use Rattle.std.specs.Borrow.{Bor}
use Rattle.std.specs.Ordering.{nat_cmp}
use Rattle.keyed.specs.Keyed.{Ascends}
use Rattle.node_map.specs.TreeNode.{Entries, TreeNode, TreeView}

abbrev pub side_entries : {T : Type 0} → Option (Bor (TreeView T)) → Entries T
side_entries None = []
side_entries (Some tree) = tree.now.entries

abbrev pub side_nodes : {T : Type 0} → Option (Bor (TreeView T)) → List (TreeNode T)
side_nodes None = []
side_nodes (Some tree) = tree.now.nodes

-- nodes at one place and of one generation have the same entries below them
pub record Agree {T : Type 0} (xs ys : List (TreeNode T)) : Type 0 where
  pub each : (m n : TreeNode T) → Contains xs m → Contains ys n → m.low ≡ n.low → m.width ≡ n.width → m.generation ≡ n.generation → m.entries ≡ n.entries

-- the entries of both ascend, and their nodes agree
pub record IsReady {T : Type 0} (old new : Option (Bor (TreeView T))) : Type 0 where
  pub old_ascends : Ascends nat_cmp (side_entries old)
  pub new_ascends : Ascends nat_cmp (side_entries new)
  pub agree : Agree (side_nodes old) (side_nodes new)
