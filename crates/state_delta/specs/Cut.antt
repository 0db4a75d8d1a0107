-- Two trees, cut at one key.
use Rattle.std.specs.Prelude.{◌≡◌, ℕ, ◌+◌, ◌-◌, ◌^◌, ◌<◌, ◌≤◌, ◌⊎◌, length, Contains, Option, None}
use Rattle.std.specs.Ordering.{nat_cmp}
use Rattle.std.specs.Borrow.{Bor}
use Rattle.keyed.specs.Keyed.{at}
use Rattle.node_map.specs.TreeNode.{TreeNode, TreeView}
use Rattle.state_delta.specs.Sides.{side_entries, side_nodes}

-- the split is the middle of the place
pub record IsMiddle (split low width : ℕ) : Type 0 where
  pub positive : 0 < width
  pub middle : split ≡ low + 2 ^ (width - 1)

-- all of the place is below the split
pub record IsBelow (split low width : ℕ) : Type 0 where
  pub to : low + 2 ^ width ≤ split

-- all of the place is from the split on
pub record IsFrom (split low : ℕ) : Type 0 where
  pub from : split ≤ low

-- all of the place is on one side of the split
abbrev pub IsAside : ℕ → ℕ → ℕ → Type 0
IsAside split low width = IsBelow split low width ⊎ IsFrom split low

-- the split is the middle of the place, or the place is on one side of it
abbrev pub IsParted : ℕ → ℕ → ℕ → Type 0
IsParted split low width = IsMiddle split low width ⊎ IsAside split low width

-- the one place is below the split, and the other from it on
pub record IsBetween (split low width later : ℕ) : Type 0 where
  pub below : IsBelow split low width
  pub from : IsFrom split later

-- the split parts both trees, and leaves fewer nodes on either side
pub record PartsBoth {T : Type 0} (split : ℕ) (a b : TreeView T) : Type 0 where
  pub first : IsParted split a.low a.width
  pub second : IsParted split b.low b.width
  pub apart : (IsMiddle split a.low a.width ⊎ IsMiddle split b.low b.width) ⊎ (IsBetween split a.low a.width b.low ⊎ IsBetween split b.low b.width a.low)

-- the tree has these entries below the split and from it on, out of its own nodes
pub record IsCut {T : Type 0} (split : ℕ) (t : TreeView T) (below rest : Option (Bor (TreeView T))) : Type 0 where
  pub below_at : (key : ℕ) → key < split → at nat_cmp key t.entries ≡ at nat_cmp key (side_entries below)
  pub rest_at : (key : ℕ) → split ≤ key → at nat_cmp key t.entries ≡ at nat_cmp key (side_entries rest)
  pub below_none : (key : ℕ) → split ≤ key → at nat_cmp key (side_entries below) ≡ None
  pub rest_none : (key : ℕ) → key < split → at nat_cmp key (side_entries rest) ≡ None
  pub below_nodes : (n : TreeNode T) → Contains (side_nodes below) n → Contains t.nodes n
  pub rest_nodes : (n : TreeNode T) → Contains (side_nodes rest) n → Contains t.nodes n
  pub fewer : length (side_nodes below) + length (side_nodes rest) ≤ length t.nodes
  pub halved : IsMiddle split t.low t.width → length (side_nodes below) + length (side_nodes rest) < length t.nodes
  pub none_below : IsFrom split t.low → length (side_nodes below) ≡ 0
  pub none_from : IsBelow split t.low t.width → length (side_nodes rest) ≡ 0
