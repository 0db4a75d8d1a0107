-- Where two states agree on the routes to a prefix.
use Rattle.std.specs.Prelude.{◌≡◌, ℕ, Bool, None, Some}
use Rattle.std.specs.List.{Contains}
use Rattle.std.specs.Ordering.{nat_cmp}
use Rattle.keyed.specs.Keyed.{at}
use Rattle.net_types.specs.declared.hop.Hop.{Hop}
use Rattle.net_types.specs.Cidr.{Cidr}
use Rattle.switch_model.specs.BestRoute.{best}
use Rattle.switch_model.specs.LongestMatch.{longest_match}
use Rattle.switch_model.specs.PlainState.{Rib}
use Rattle.switch_model.specs.Reach.{hops_of_best, is_of_vrf}

-- the interface is there, and in that VRF
abbrev pub is_in : Rib → ℕ → ℕ → Bool
is_in rib vrf intf = is_of_vrf vrf (at nat_cmp intf rib.intfs)

-- the best route to the prefix goes by that hop
abbrev pub HasHop : Rib → ℕ → Cidr → Hop → Type 0
HasHop rib vrf prefix hop = Contains (hops_of_best (best rib vrf prefix)) hop

-- in both states the prefix has one best route, each of its hops without an interface one longest match, and each interface that a hop names is in the VRF in both or in neither
pub record Agree (old new : Rib) (vrf : ℕ) (prefix : Cidr) : Type 0 where
  pub same_best : best old vrf prefix ≡ best new vrf prefix
  pub same_match : (hop : Hop) → HasHop new vrf prefix hop → hop.intf ≡ None → longest_match old vrf hop.ip ≡ longest_match new vrf hop.ip
  pub same_intf : (hop : Hop) (intf : ℕ) → HasHop new vrf prefix hop → hop.intf ≡ Some intf → is_in old vrf intf ≡ is_in new vrf intf
