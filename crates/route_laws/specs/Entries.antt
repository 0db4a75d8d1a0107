-- The entries that a best route rests on.
use Rattle.std.specs.Prelude.{ℕ, Bool, false, Option, None, Some}
use Rattle.std.specs.Ordering.{nat_cmp}
use Rattle.keyed.specs.Keyed.{Ascends, at}
use Rattle.net_types.specs.declared.client.Client.{Client}
use Rattle.net_types.specs.declared.table.RouteKey.{RouteKey}
use Rattle.switch_model.specs.declared.record.IntfRec.{IntfRec}
use Rattle.switch_model.specs.declared.record.RouteRec.{RouteRec}
use Rattle.switch_model.specs.BestRoute.{has_subnet_in}
use Rattle.switch_model.specs.PlainState.{Rib}
use Rattle.switch_model.specs.StateKeys.{rib_cmp}

-- interfaces and routes ascend by key
pub record AreInOrder (rib : Rib) : Type 0 where
  pub intfs : Ascends nat_cmp rib.intfs
  pub routes : Ascends rib_cmp rib.routes

-- the client's route to the key's prefix, where it has one
abbrev pub route_of : Rib → RouteKey → Client → Option RouteRec
route_of rib key client = at rib_cmp (record { vrf = key.vrf; prefix = key.prefix; client = client }) rib.routes

-- the interface with that record is in the key's VRF, and has the key's prefix as a subnet
abbrev pub connects_by : RouteKey → ℕ → Option IntfRec → Bool
connects_by key intf None = false
connects_by key intf (Some r) = has_subnet_in key.vrf key.prefix (intf, r)

-- the interface is there, in the key's VRF, and has the key's prefix as a subnet
abbrev pub connects : Rib → RouteKey → ℕ → Bool
connects rib key intf = connects_by key intf (at nat_cmp intf rib.intfs)
