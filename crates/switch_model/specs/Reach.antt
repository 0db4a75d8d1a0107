-- What the hops of a route reach, by finite chains of routes.
use Rattle.std.specs.Prelude.{ℕ, zero, suc, ◌≡◌, ◌==◌, Bool, false, Option, None, Some, List, [], ◌∷◌, ◌++◌, length, map, filter_map, flat_map, if◌then◌else◌}
use Rattle.std.specs.List.{Contains}
use Rattle.std.specs.Ordering.{nat_cmp}
use Rattle.keyed.specs.Keyed.{at}
use Rattle.net_types.specs.declared.hop.Hop.{Hop}
use Rattle.net_types.specs.declared.ip.Ip.{Ip}
use Rattle.net_types.specs.declared.table.HostKey.{HostKey}
use Rattle.net_types.specs.Cidr.{Cidr}
use Rattle.switch_model.specs.declared.record.IntfRec.{IntfRec}
use Rattle.switch_model.specs.declared.record.RouteRec.TheVariants.{Hops, ToCpu, Discard}
use Rattle.switch_model.specs.BestRoute.{BestRoute, connected, learnt, best}
use Rattle.switch_model.specs.LongestMatch.{longest_match}
use Rattle.switch_model.specs.PlainState.{Rib}

-- what a hop leads to: a host, which is an ip on an interface; on to the route of a prefix, which has hops of its own; the CPU; drop; or nothing
pub data Lead : Type 0 where
  direct : HostKey → Lead
  onward : Cidr → Lead
  to_cpu : Lead
  dropped : Lead
  nothing : Lead

-- what a hop without an interface leads to, by the longest match of its ip
abbrev pub lead_of_match : Ip → Option (Cidr × BestRoute) → Lead
lead_of_match ip None = nothing
lead_of_match ip (Some (prefix, connected intf)) = direct (record { ip = ip; intf = intf })
lead_of_match ip (Some (prefix, learnt client (Hops hops))) = onward prefix
lead_of_match ip (Some (prefix, learnt client ToCpu)) = to_cpu
lead_of_match ip (Some (prefix, learnt client Discard)) = dropped

-- the interface is there, and of that VRF
abbrev pub is_of_vrf : ℕ → Option IntfRec → Bool
is_of_vrf vrf None = false
is_of_vrf vrf (Some intf) = intf.vrf == vrf

-- a hop over an interface leads to that host where the interface is of the VRF, else to nothing; without one the longest match decides
abbrev pub lead_over : Rib → ℕ → Ip → Option ℕ → Lead
lead_over rib vrf ip None = lead_of_match ip (longest_match rib vrf ip)
lead_over rib vrf ip (Some intf) = if is_of_vrf vrf (at nat_cmp intf rib.intfs) then direct (record { ip = ip; intf = intf }) else nothing

-- what a hop leads to
abbrev pub leads_to : Rib → ℕ → Hop → Lead
leads_to rib vrf hop = lead_over rib vrf hop.ip hop.intf

-- the hops of a best route, where it has any
abbrev pub hops_of_best : Option BestRoute → List Hop
hops_of_best (Some (learnt client (Hops hops))) = hops
hops_of_best _ = []

-- what the hops of the prefix's best route lead to
abbrev pub leads : Rib → ℕ → Cidr → List Lead
leads rib vrf prefix = map (leads_to rib vrf) (hops_of_best (best rib vrf prefix))

-- a chain from one prefix by further members to the last: a hop of each leads on to the next
abbrev pub IsChain : Rib → ℕ → Cidr → List Cidr → Cidr → Type 0
IsChain rib vrf prefix [] last = prefix ≡ last
IsChain rib vrf prefix (next ∷ more) last = Contains (leads rib vrf prefix) (onward next) × IsChain rib vrf next more last

-- some finite chain from the prefix has a last member of which a hop leads there
pub record Reaches (rib : Rib) (vrf : ℕ) (prefix : Cidr) (lead : Lead) : Type 0 where
  pub last : Cidr
  pub members : List Cidr
  pub chain : IsChain rib vrf prefix members last
  pub given : Contains (leads rib vrf last) lead

-- the prefix that a hop leads on to, where it does
abbrev pub onward_of : Lead → Option Cidr
onward_of (onward prefix) = Some prefix
onward_of _ = None

-- what is reached by chains of at most n further members
abbrev pub reached_within : Rib → ℕ → ℕ → Cidr → List Lead
reached_within rib vrf zero prefix = leads rib vrf prefix
reached_within rib vrf (suc n) prefix = leads rib vrf prefix ++ flat_map (reached_within rib vrf n) (filter_map onward_of (leads rib vrf prefix))

-- all that is reached: no chain needs more further members than there are routes
abbrev pub all_reached : Rib → ℕ → Cidr → List Lead
all_reached rib vrf prefix = reached_within rib vrf (length rib.routes) prefix
