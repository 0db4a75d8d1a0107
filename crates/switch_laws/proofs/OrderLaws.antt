-- Each act keeps the parts in order, a valid one or not.
use Rattle.std.proofs.Common.{ℕ, List, [], ◌∷◌, true, false, not}
use Rattle.std.specs.Ordering.{nat_cmp}
use Rattle.keyed.specs.FilterLaws.{ascends-filter}
use Rattle.keyed.specs.Keyed.{Ascends}
use Rattle.keyed.specs.KeyOrders.{nat_order}
use Rattle.keyed.specs.KeyedLaws.{ascends-put, ascends-without}
use Rattle.keyed.specs.ValueLaws.{ascends-change}
use Rattle.net_types.specs.declared.client.Client.{Client}
use Rattle.net_types.specs.declared.table.L2Key.{L2Key}
use Rattle.net_types.specs.Cidr.{Cidr}
use Rattle.net_types.specs.KeyOrder.{l2_cmp, l2_order}
use Rattle.switch_model.specs.declared.act.Act.{Act}
use Rattle.switch_model.specs.declared.act.Act.TheVariants.{VlanAdd, VlanDel, PortAdd, PortDel, PortVlan, PortUp, PortDown, IntfAdd, IntfDel, AddrAdd, AddrDel, NeighborSet, NeighborPending, NeighborDel, MacSet, MacDel, RouteSet, RouteDel, ClientSync}
use Rattle.switch_model.specs.declared.key.NeighborKey.{NeighborKey}
use Rattle.switch_model.specs.declared.key.RibKey.{RibKey}
use Rattle.switch_model.specs.declared.record.IntfRec.{IntfRec}
use Rattle.switch_model.specs.declared.record.MacRec.{MacRec}
use Rattle.switch_model.specs.declared.record.NeighborRec.{NeighborRec}
use Rattle.switch_model.specs.declared.record.NeighborRec.TheVariants.{Pending, Reachable}
use Rattle.switch_model.specs.declared.record.PortRec.{PortRec}
use Rattle.switch_model.specs.declared.record.RouteRec.{RouteRec}
use Rattle.switch_model.specs.declared.record.VlanRec.{VlanRec}
use Rattle.switch_model.specs.declared.via.Via.{Via}
use Rattle.switch_model.specs.Effect.{effect, is_route_of, route_of, with_addr, with_routes, with_up, with_vlan, without_addr}
use Rattle.switch_model.specs.PlainState.{PlainState, ArePartsInOrder, empty}
use Rattle.switch_model.specs.StateKeys.{neighbor_cmp, neighbor_order, rib_cmp, rib_order}

pub empty-in_order : ArePartsInOrder empty
empty-in_order = record { vlans = tt; ports = tt; intfs = tt; macs = tt; neighbors = tt; routes = tt }

-- the state with another list in one part

other_vlans : (m : PlainState) (l : List (ℕ × VlanRec)) → ArePartsInOrder m → Ascends nat_cmp l → ArePartsInOrder (record m { vlans = l })
other_vlans m l is asc = record { vlans = asc; ports = is.ports; intfs = is.intfs; macs = is.macs; neighbors = is.neighbors; routes = is.routes }

other_ports : (m : PlainState) (l : List (ℕ × PortRec)) → ArePartsInOrder m → Ascends nat_cmp l → ArePartsInOrder (record m { ports = l })
other_ports m l is asc = record { vlans = is.vlans; ports = asc; intfs = is.intfs; macs = is.macs; neighbors = is.neighbors; routes = is.routes }

other_intfs : (m : PlainState) (l : List (ℕ × IntfRec)) → ArePartsInOrder m → Ascends nat_cmp l → ArePartsInOrder (record m { intfs = l })
other_intfs m l is asc = record { vlans = is.vlans; ports = is.ports; intfs = asc; macs = is.macs; neighbors = is.neighbors; routes = is.routes }

other_macs : (m : PlainState) (l : List (L2Key × MacRec)) → ArePartsInOrder m → Ascends l2_cmp l → ArePartsInOrder (record m { macs = l })
other_macs m l is asc = record { vlans = is.vlans; ports = is.ports; intfs = is.intfs; macs = asc; neighbors = is.neighbors; routes = is.routes }

other_neighbors : (m : PlainState) (l : List (NeighborKey × NeighborRec)) → ArePartsInOrder m → Ascends neighbor_cmp l → ArePartsInOrder (record m { neighbors = l })
other_neighbors m l is asc = record { vlans = is.vlans; ports = is.ports; intfs = is.intfs; macs = is.macs; neighbors = asc; routes = is.routes }

other_routes : (m : PlainState) (l : List (RibKey × RouteRec)) → ArePartsInOrder m → Ascends rib_cmp l → ArePartsInOrder (record m { routes = l })
other_routes m l is asc = record { vlans = is.vlans; ports = is.ports; intfs = is.intfs; macs = is.macs; neighbors = is.neighbors; routes = asc }

pub routes-ascend : (vrf : ℕ) (client : Client) (rs : List (Cidr × Via)) (routes : List (RibKey × RouteRec)) → Ascends rib_cmp routes → Ascends rib_cmp (with_routes vrf client rs routes)
routes-ascend vrf client [] routes asc = asc
routes-ascend vrf client (r ∷ rs) routes asc = routes-ascend vrf client rs _ (ascends-put rib_cmp rib_order (record { vrf = vrf; prefix = r.0; client = client }) (route_of r.1) routes asc)

pub effect-in_order : (m : PlainState) (act : Act) → ArePartsInOrder m → ArePartsInOrder (effect m act)
effect-in_order m (VlanAdd vlan name) is = other_vlans m _ is (ascends-put nat_cmp nat_order vlan (record { name = name }) m.vlans is.vlans)
effect-in_order m (VlanDel vlan) is = other_vlans m _ is (ascends-without nat_cmp nat_order vlan m.vlans is.vlans)
effect-in_order m (PortAdd port vlan) is = other_ports m _ is (ascends-put nat_cmp nat_order port (record { vlan = vlan; up = false }) m.ports is.ports)
effect-in_order m (PortDel port) is = other_ports m _ is (ascends-without nat_cmp nat_order port m.ports is.ports)
effect-in_order m (PortVlan port vlan) is = other_ports m _ is (ascends-change nat_cmp port (with_vlan vlan) m.ports is.ports)
effect-in_order m (PortUp port) is = other_ports m _ is (ascends-change nat_cmp port (with_up true) m.ports is.ports)
effect-in_order m (PortDown port) is = other_ports m _ is (ascends-change nat_cmp port (with_up false) m.ports is.ports)
effect-in_order m (IntfAdd intf vlan vrf mac) is = other_intfs m _ is (ascends-put nat_cmp nat_order intf (record { vlan = vlan; vrf = vrf; mac = mac; addrs = [] }) m.intfs is.intfs)
effect-in_order m (IntfDel intf) is = other_intfs m _ is (ascends-without nat_cmp nat_order intf m.intfs is.intfs)
effect-in_order m (AddrAdd intf addr) is = other_intfs m _ is (ascends-change nat_cmp intf (with_addr addr) m.intfs is.intfs)
effect-in_order m (AddrDel intf addr) is = other_intfs m _ is (ascends-change nat_cmp intf (without_addr addr) m.intfs is.intfs)
effect-in_order m (NeighborSet intf ip mac port) is = other_neighbors m _ is (ascends-put neighbor_cmp neighbor_order (record { intf = intf; ip = ip }) (Reachable mac port) m.neighbors is.neighbors)
effect-in_order m (NeighborPending intf ip) is = other_neighbors m _ is (ascends-put neighbor_cmp neighbor_order (record { intf = intf; ip = ip }) Pending m.neighbors is.neighbors)
effect-in_order m (NeighborDel intf ip) is = other_neighbors m _ is (ascends-without neighbor_cmp neighbor_order (record { intf = intf; ip = ip }) m.neighbors is.neighbors)
effect-in_order m (MacSet vlan mac port) is = other_macs m _ is (ascends-put l2_cmp l2_order (record { vlan = vlan; mac = mac }) (record { port = port }) m.macs is.macs)
effect-in_order m (MacDel vlan mac) is = other_macs m _ is (ascends-without l2_cmp l2_order (record { vlan = vlan; mac = mac }) m.macs is.macs)
effect-in_order m (RouteSet vrf prefix client via) is = other_routes m _ is (routes-ascend vrf client ((prefix, via) ∷ []) m.routes is.routes)
effect-in_order m (RouteDel vrf prefix client) is = other_routes m _ is (ascends-without rib_cmp rib_order (record { vrf = vrf; prefix = prefix; client = client }) m.routes is.routes)
effect-in_order m (ClientSync vrf client routes) is = other_routes m _ is (routes-ascend vrf client routes _ (ascends-filter rib_cmp rib_order (λ k. not (is_route_of vrf client k)) m.routes is.routes))
