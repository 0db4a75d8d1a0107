-- What is gathered along the hops of a route.
use Rattle.std.specs.Prelude.{◌≡◌, ◌⊎◌, ◌↔◌, ℕ, IsTrue, false, Some, List, [], ◌++◌}
use Rattle.std.specs.List.{Contains}
use Rattle.keyed.specs.Members.{IsDistinct}
use Rattle.net_types.specs.Cidr.{Cidr}
use Rattle.net_types.specs.declared.client.Client.{Client}
use Rattle.net_types.specs.declared.table.RouteKey.{RouteKey}
use Rattle.state_keys.specs.PartKeys.{fib_number, IsFib}
use Rattle.switch_model.specs.declared.record.RouteRec.{RouteRec}
use Rattle.nexthop_resolve.specs.declared.gather.Gathered.{Gathered}
use Rattle.nexthop_resolve.specs.declared.lead.HopLead.{HopLead}
use Rattle.nexthop_resolve.specs.declared.lead.HopLead.TheVariants as answer
use Rattle.switch_model.specs.BestRoute.{learnt, best}
use Rattle.switch_model.specs.PlainState.{Rib}
use Rattle.switch_model.specs.Reach.{Lead, direct, onward, to_cpu, dropped, nothing}

-- what the answer says
abbrev pub lead_of : HopLead → Lead
lead_of (answer.Direct host) = direct host
lead_of (answer.Onward prefix) = onward prefix
lead_of answer.ToCpu = to_cpu
lead_of answer.Discard = dropped
lead_of answer.Nothing = nothing

-- it is gathered
abbrev pub Holds : Gathered → Lead → Type 0
Holds all (direct host) = Contains all.hosts.items host
Holds all (onward prefix) = Contains all.seen.items prefix
Holds all to_cpu = IsTrue all.cpu
Holds all dropped = IsTrue all.discard
Holds all nothing = Unit {0}

-- the key of a prefix in a VRF
abbrev pub key_in : ℕ → Cidr → RouteKey
key_in vrf prefix = record { vrf = vrf; prefix = prefix }

-- the set has exactly the keys of the routes on the way
pub record IsTied (vrf : ℕ) (all : Gathered) : Type 0 where
  pub known : (prefix : Cidr) → IsFib (key_in vrf prefix) → Contains all.known (fib_number (key_in vrf prefix)) ↔ Contains all.seen.items prefix

-- nothing is gathered yet
pub record IsEmpty (all : Gathered) : Type 0 where
  pub seen : all.seen.items ≡ []
  pub known : all.known ≡ []
  pub hosts : all.hosts.items ≡ []
  pub cpu : all.cpu ≡ false
  pub discard : all.discard ≡ false

-- exactly what has P is gathered newly, and the routes on the way grew at their end
pub record Grows (vrf : ℕ) (old new : Gathered) (P : Lead → Type 0) : Type 0 where
  pub tied : IsTied vrf old → IsTied vrf new
  pub stays : (met : Lead) → Holds old met → Holds new met
  pub takes : IsTied vrf old → (met : Lead) → P met → Holds new met
  pub only : (met : Lead) → Holds new met → Holds old met ⊎ P met
  pub queue : (more : List Cidr) × (new.seen.items ≡ old.seen.items ++ more)
  pub distinct : IsTied vrf old → IsDistinct old.seen.items → IsDistinct new.seen.items

-- the best route to the prefix is that one, of some client
pub record IsBest (rib : Rib) (vrf : ℕ) (prefix : Cidr) (route : RouteRec) : Type 0 where
  pub client : Client
  pub is : best rib vrf prefix ≡ Some (learnt client route)
