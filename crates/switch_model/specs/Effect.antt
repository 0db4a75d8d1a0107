-- What a valid update makes of the state.
use Rattle.std.specs.Prelude.{ℕ, ◌==◌, ◌&&◌, not, Bool, true, false, List, [], ◌∷◌, filter}
use Rattle.std.specs.Ordering.{nat_cmp}
use Rattle.keyed.specs.Keyed.{put, without, change}
use Rattle.keyed.specs.Sets.{insert, delete, set_of}
use Rattle.net_types.specs.declared.client.Client.{Client}
use Rattle.net_types.specs.Cidr.{Cidr}
use Rattle.net_types.specs.Clients.{client_number}
use Rattle.net_types.specs.KeyOrder.{l2_cmp, hop_cmp}
use Rattle.switch_model.specs.declared.act.Act.{Act}
use Rattle.switch_model.specs.declared.act.Act.TheVariants.{VlanAdd, VlanDel, PortAdd, PortDel, PortVlan, PortUp, PortDown, IntfAdd, IntfDel, AddrAdd, AddrDel, NeighborSet, NeighborPending, NeighborDel, MacSet, MacDel, RouteSet, RouteDel, ClientSync}
use Rattle.switch_model.specs.declared.key.RibKey.{RibKey}
use Rattle.switch_model.specs.declared.record.IntfRec.{IntfRec}
use Rattle.switch_model.specs.declared.record.NeighborRec.TheVariants.{Pending, Reachable}
use Rattle.switch_model.specs.declared.record.PortRec.{PortRec}
use Rattle.switch_model.specs.declared.record.RouteRec.{RouteRec}
use Rattle.switch_model.specs.declared.record.RouteRec.TheVariants as kept
use Rattle.switch_model.specs.declared.via.Via.{Via}
use Rattle.switch_model.specs.declared.via.Via.TheVariants.{Hops, ToCpu, Discard}
use Rattle.switch_model.specs.Addresses.{addr_cmp}
use Rattle.switch_model.specs.PlainState.{PlainState}
use Rattle.switch_model.specs.StateKeys.{neighbor_cmp, rib_cmp}

-- the port as up or down
abbrev pub with_up : Bool → PortRec → PortRec
with_up up port = record port { up = up }

-- the port in another VLAN
abbrev pub with_vlan : ℕ → PortRec → PortRec
with_vlan vlan port = record port { vlan = vlan }

-- the interface with one address more
abbrev pub with_addr : Cidr → IntfRec → IntfRec
with_addr addr intf = record intf { addrs = insert addr_cmp addr intf.addrs }

-- the interface with one address less
abbrev pub without_addr : Cidr → IntfRec → IntfRec
without_addr addr intf = record intf { addrs = delete addr_cmp addr intf.addrs }

-- an entry is put under its key in the place of one that is there, or taken away; a new port is down; a change is of one field
abbrev pub port_effect : PlainState → Act → PlainState
port_effect m (VlanAdd vlan name) = record m { vlans = put nat_cmp vlan (record { name = name }) m.vlans }
port_effect m (VlanDel vlan) = record m { vlans = without nat_cmp vlan m.vlans }
port_effect m (PortAdd port vlan) = record m { ports = put nat_cmp port (record { vlan = vlan; up = false }) m.ports }
port_effect m (PortDel port) = record m { ports = without nat_cmp port m.ports }
port_effect m (PortVlan port vlan) = record m { ports = change nat_cmp port (with_vlan vlan) m.ports }
port_effect m (PortUp port) = record m { ports = change nat_cmp port (with_up true) m.ports }
port_effect m (PortDown port) = record m { ports = change nat_cmp port (with_up false) m.ports }
port_effect m (IntfAdd intf vlan vrf mac) = record m { intfs = put nat_cmp intf (record { vlan = vlan; vrf = vrf; mac = mac; addrs = [] }) m.intfs }
port_effect m (IntfDel intf) = record m { intfs = without nat_cmp intf m.intfs }
port_effect m (AddrAdd intf addr) = record m { intfs = change nat_cmp intf (with_addr addr) m.intfs }
port_effect m (AddrDel intf addr) = record m { intfs = change nat_cmp intf (without_addr addr) m.intfs }
port_effect m _ = m

-- the same for acts on neighbours and stations
abbrev pub neighbor_effect : PlainState → Act → PlainState
neighbor_effect m (NeighborSet intf ip mac port) = record m { neighbors = put neighbor_cmp (record { intf = intf; ip = ip }) (Reachable mac port) m.neighbors }
neighbor_effect m (NeighborPending intf ip) = record m { neighbors = put neighbor_cmp (record { intf = intf; ip = ip }) Pending m.neighbors }
neighbor_effect m (NeighborDel intf ip) = record m { neighbors = without neighbor_cmp (record { intf = intf; ip = ip }) m.neighbors }
neighbor_effect m (MacSet vlan mac port) = record m { macs = put l2_cmp (record { vlan = vlan; mac = mac }) (record { port = port }) m.macs }
neighbor_effect m (MacDel vlan mac) = record m { macs = without l2_cmp (record { vlan = vlan; mac = mac }) m.macs }
neighbor_effect m _ = m

-- a route keeps its hops as a set
abbrev pub route_of : Via → RouteRec
route_of (Hops hops) = kept.Hops (set_of hop_cmp hops)
route_of ToCpu = kept.ToCpu
route_of Discard = kept.Discard

-- the route is that client's, in that VRF
abbrev pub is_route_of : ℕ → Client → RibKey → Bool
is_route_of vrf client key = (key.vrf == vrf) && (client_number key.client == client_number client)

-- routes with each of the listed ones put under its key
abbrev pub with_routes : ℕ → Client → List (Cidr × Via) → List (RibKey × RouteRec) → List (RibKey × RouteRec)
with_routes vrf client [] routes = routes
with_routes vrf client (r ∷ rs) routes = with_routes vrf client rs (put rib_cmp (record { vrf = vrf; prefix = r.0; client = client }) (route_of r.1) routes)

-- the same for acts on routes; a sync takes all routes of the client in the VRF away before it puts the listed ones
abbrev pub route_effect : PlainState → Act → PlainState
route_effect m (RouteSet vrf prefix client via) = record m { routes = with_routes vrf client ((prefix, via) ∷ []) m.routes }
route_effect m (RouteDel vrf prefix client) = record m { routes = without rib_cmp (record { vrf = vrf; prefix = prefix; client = client }) m.routes }
route_effect m (ClientSync vrf client routes) = record m { routes = with_routes vrf client routes (filter (λ e. not (is_route_of vrf client e.0)) m.routes) }
route_effect m _ = m

-- each act is of one of the three kinds, and the other two change nothing
abbrev pub effect : PlainState → Act → PlainState
effect m act = route_effect (neighbor_effect (port_effect m act) act) act
