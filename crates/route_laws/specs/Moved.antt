-- The keys that a change of routes and interfaces moves, and the keys that depend on those.
use Rattle.std.specs.Prelude.{◌≡◌, ◌≢◌, ◌⊎◌, ◌↔◌, ℕ, true, None, Some, List}
use Rattle.std.specs.List.{Contains}
use Rattle.std.specs.List.Sorted.{IsStrictlySortedBy}
use Rattle.net_types.specs.declared.hop.Hop.{Hop}
use Rattle.net_types.specs.declared.ip.Ip.{Ip}
use Rattle.net_types.specs.declared.table.RouteKey.{RouteKey}
use Rattle.net_types.specs.Cidr.{Cidr}
use Rattle.net_types.specs.KeyOrder.{route_cmp}
use Rattle.net_types.specs.Prefix.{contains}
use Rattle.switch_model.specs.BestRoute.{BestRoute, best}
use Rattle.switch_model.specs.LongestMatch.{longest_match}
use Rattle.switch_model.specs.PlainState.{Rib}
use Rattle.route_laws.specs.Local.{is_in, HasHop}

-- the key of a prefix in a VRF
abbrev pub key_in : ℕ → Cidr → RouteKey
key_in vrf prefix = record { vrf = vrf; prefix = prefix }

-- a hop of the new best route names an interface that is in the VRF in one of the two states alone
pub record HasMovedHop (old new : Rib) (vrf : ℕ) (prefix : Cidr) : Type 0 where
  pub hop : Hop
  pub intf : ℕ
  pub has : HasHop new vrf prefix hop
  pub names : hop.intf ≡ Some intf
  pub moved : is_in old vrf intf ≢ is_in new vrf intf

-- the key is moved: its best route differs, or an interface that a hop of the new one names came into the VRF or left it
abbrev pub IsMoved : Rib → Rib → RouteKey → Type 0
IsMoved old new key = (best old key.vrf key.prefix ≢ best new key.vrf key.prefix) ⊎ HasMovedHop old new key.vrf key.prefix

-- these are exactly the moved keys, ascending
pub record AreMoved (old new : Rib) (moved : List RouteKey) : Type 0 where
  pub ascend : IsStrictlySortedBy route_cmp moved
  pub exact : (key : RouteKey) → Contains moved key ↔ IsMoved old new key

-- the moved keys can be listed
pub record HasMoved (old new : Rib) : Type 0 where
  pub moved : List RouteKey
  pub are : AreMoved old new moved

-- the prefix is the longest match of the ip
pub record IsMatchOf (rib : Rib) (vrf : ℕ) (ip : Ip) (prefix : Cidr) : Type 0 where
  pub route : BestRoute
  pub is : longest_match rib vrf ip ≡ Some (prefix, route)

-- a hop without an interface of the new best route to the prefix has the other prefix as its longest match, in the old state or in the new one
pub record DependsOn (old new : Rib) (vrf : ℕ) (prefix other : Cidr) : Type 0 where
  pub hop : Hop
  pub has : HasHop new vrf prefix hop
  pub plain : hop.intf ≡ None
  pub matched : IsMatchOf old vrf hop.ip other ⊎ IsMatchOf new vrf hop.ip other

-- the prefix is of the least set that has the changed keys and, with a key, each one that depends on it
pub data IsAffected (old new : Rib) (IsChanged : RouteKey → Type 0) (vrf : ℕ) : Cidr → Type 0 where
  changed : (prefix : Cidr) → IsChanged (key_in vrf prefix) → IsAffected old new IsChanged vrf prefix
  depends : (prefix other : Cidr) → DependsOn old new vrf prefix other → IsAffected old new IsChanged vrf other → IsAffected old new IsChanged vrf prefix

-- a set has the moved keys and, with a key, each one that depends on it
pub record Covers (old new : Rib) (In : RouteKey → Type 0) : Type 0 where
  pub moved : (key : RouteKey) → IsMoved old new key → In key
  pub dependents : (vrf : ℕ) (prefix other : Cidr) → DependsOn old new vrf prefix other → In (key_in vrf other) → In (key_in vrf prefix)

-- a set has, with a key, each other one of its VRF whose best route has a hop without an interface that lies in that key's prefix
pub record HasDependents (new : Rib) (In : RouteKey → Type 0) : Type 0 where
  pub dependents : (vrf : ℕ) (prefix other : Cidr) (hop : Hop) → HasHop new vrf prefix hop → hop.intf ≡ None → contains other hop.ip ≡ true → In (key_in vrf other) → In (key_in vrf prefix)
