-- The best route to a prefix.
use Rattle.std.specs.Prelude.{ℕ, ◌==◌, ◌&&◌, nat_lt, Bool, Option, None, Some, List, option_map, find, filter, if◌then◌else◌}
use Rattle.std.specs.List.{list_any, reduce}
use Rattle.net_types.specs.declared.client.Client.{Client}
use Rattle.net_types.specs.Cidr.{Cidr}
use Rattle.net_types.specs.Clients.{client_distance}
use Rattle.switch_model.specs.declared.key.RibKey.{RibKey}
use Rattle.switch_model.specs.declared.record.IntfRec.{IntfRec}
use Rattle.switch_model.specs.declared.record.RouteRec.{RouteRec}
use Rattle.switch_model.specs.Addresses.{same_addr, subnets}
use Rattle.switch_model.specs.PlainState.{Rib}

-- a subnet of an interface, or a client's route
pub data BestRoute : Type 0 where
  connected : ℕ → BestRoute
  learnt : Client → RouteRec → BestRoute

-- the interface has that VRF and that subnet
abbrev pub has_subnet_in : ℕ → Cidr → ℕ × IntfRec → Bool
has_subnet_in vrf prefix e = (e.1.vrf == vrf) && list_any (same_addr prefix) (subnets e.1.addrs)

-- the least interface that has it
abbrev pub connected_to : Rib → ℕ → Cidr → Option ℕ
connected_to rib vrf prefix = option_map (λ e. e.0) (find (has_subnet_in vrf prefix) rib.intfs)

-- the clients' routes to the prefix
abbrev pub routes_to : Rib → ℕ → Cidr → List (RibKey × RouteRec)
routes_to rib vrf prefix = filter (λ e. (e.0.vrf == vrf) && same_addr prefix e.0.prefix) rib.routes

-- of two routes the one whose client has the less distance
abbrev pub nearer : RibKey × RouteRec → RibKey × RouteRec → RibKey × RouteRec
nearer a b = if nat_lt (client_distance b.0.client) (client_distance a.0.client) then b else a

-- a connected prefix goes before any route
abbrev pub connected_first : Option ℕ → Option (RibKey × RouteRec) → Option BestRoute
connected_first (Some intf) route = Some (connected intf)
connected_first None (Some e) = Some (learnt e.0.client e.1)
connected_first None None = None

-- connected where an interface has that subnet, else the route of least distance
abbrev pub best : Rib → ℕ → Cidr → Option BestRoute
best rib vrf prefix = connected_first (connected_to rib vrf prefix) (reduce nearer (routes_to rib vrf prefix))
