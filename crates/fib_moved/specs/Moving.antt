-- Which of some keys are moved.
use Rattle.std.specs.Prelude.{◌≡◌, ◌≢◌, ◌↔◌, ◌⊎◌, ℕ, Option, None, Some, List, [], ◌∷◌}
use Rattle.std.specs.Ordering.{nat_cmp}
use Rattle.keyed.specs.Keyed.{at}
use Rattle.node_map.specs.TreeNode.{Entries}
use Rattle.state_delta.specs.Change.{ChangeView}
use Rattle.state_keys.specs.PartKeys.{rib_of}
use Rattle.switch_model.specs.declared.record.RouteRec.{RouteRec}
use Rattle.rib_lookup.specs.Tables.{key_of_rib}
use Rattle.std.specs.List.{Contains}
use Rattle.std.specs.List.Sorted.{IsStrictlySortedBy}
use Rattle.net_types.specs.declared.hop.Hop.{Hop}
use Rattle.net_types.specs.declared.table.RouteKey.{RouteKey}
use Rattle.net_types.specs.KeyOrder.{route_cmp}
use Rattle.switch_model.specs.PlainState.{Rib}
use Rattle.route_laws.specs.Local.{is_in}
use Rattle.route_laws.specs.Moved.{IsMoved}

-- the hop names an interface that is in the VRF in one of the two states alone
pub record Moves (old new : Rib) (vrf : ℕ) (hop : Hop) : Type 0 where
  pub intf : ℕ
  pub names : hop.intf ≡ Some intf
  pub moved : is_in old vrf intf ≢ is_in new vrf intf

-- one of the hops does
pub record AnyMoves (old new : Rib) (vrf : ℕ) (hops : List Hop) : Type 0 where
  pub hop : Hop
  pub has : Contains hops hop
  pub moves : Moves old new vrf hop

-- those of the keys that are moved, ascending
pub record AreThoseMoved (old new : Rib) (keys moved : List RouteKey) : Type 0 where
  pub ascend : IsStrictlySortedBy route_cmp moved
  pub exact : (key : RouteKey) → Contains moved key ↔ (Contains keys key × IsMoved old new key)

-- keys among which all moved ones are, ascending
pub record AreCandidates (old new : Rib) (keys : List RouteKey) : Type 0 where
  pub ascend : IsStrictlySortedBy route_cmp keys
  pub all : (key : RouteKey) → IsMoved old new key → Contains keys key

-- the keys of two lists, ascending
pub record HasKeysOf (xs ys keys : List RouteKey) : Type 0 where
  pub ascend : IsStrictlySortedBy route_cmp keys
  pub has : (key : RouteKey) → Contains xs key ⊎ Contains ys key → Contains keys key

-- what was there and what was added, ascending
pub record HasAdded (more old new : List RouteKey) : Type 0 where
  pub ascend : IsStrictlySortedBy route_cmp new
  pub kept : (key : RouteKey) → Contains old key → Contains new key
  pub has : (key : RouteKey) → Contains more key → Contains new key

-- the prefix of each route that isn't the same in both, ascending
pub record HasChanged (old new : Entries RouteRec) (keys : List RouteKey) : Type 0 where
  pub ascend : IsStrictlySortedBy route_cmp keys
  pub same : (n : ℕ) → (Contains keys (key_of_rib (rib_of n)) → ⊥) → at nat_cmp n old ≡ at nat_cmp n new

-- the number is that of the first of the changes, and the others are left
pub record IsFirstOf (old new : List (ℕ × ChangeView RouteRec)) (n : ℕ) : Type 0 where
  pub change : ChangeView RouteRec
  pub is : old ≡ (n, change) ∷ new

abbrev pub IsStep : List (ℕ × ChangeView RouteRec) → List (ℕ × ChangeView RouteRec) → Option ℕ → Type 0
IsStep old new None = old ≡ []
IsStep old new (Some n) = IsFirstOf old new n
