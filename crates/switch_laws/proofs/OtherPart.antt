-- A linked state with another list in one part: what is to be shown of that list, and of the parts that name its entries.
use Rattle.std.specs.Prelude.{ℕ, List}
use Rattle.std.specs.Ordering.{nat_cmp}
use Rattle.keyed.specs.Keyed.{Ascends}
use Rattle.keyed.specs.Every.{Every, EachTwo}
use Rattle.net_types.specs.declared.table.L2Key.{L2Key}
use Rattle.net_types.specs.KeyOrder.{l2_cmp}
use Rattle.switch_model.specs.declared.key.NeighborKey.{NeighborKey}
use Rattle.switch_model.specs.declared.key.RibKey.{RibKey}
use Rattle.switch_model.specs.declared.record.IntfRec.{IntfRec}
use Rattle.switch_model.specs.declared.record.MacRec.{MacRec}
use Rattle.switch_model.specs.declared.record.NeighborRec.{NeighborRec}
use Rattle.switch_model.specs.declared.record.PortRec.{PortRec}
use Rattle.switch_model.specs.declared.record.RouteRec.{RouteRec}
use Rattle.switch_model.specs.declared.record.VlanRec.{VlanRec}
use Rattle.switch_model.specs.PlainState.{PlainState}
use Rattle.switch_model.specs.StateKeys.{neighbor_cmp, rib_cmp}
use Rattle.switch_laws.specs.Linked.{IsLinked, IsPort, IsIntf, AreApart, IsNeighbor, IsStation, IsRoute}

pub other_vlans : (m : PlainState) (l : List (ℕ × VlanRec)) → IsLinked m → Ascends nat_cmp l → Every nat_cmp (IsPort l) m.ports → Every nat_cmp (IsIntf l) m.intfs → Every l2_cmp (IsStation l m.ports) m.macs → IsLinked (record m { vlans = l })
other_vlans m l is ascends new_ports new_intfs new_macs = record { in_order = record { vlans = ascends; ports = is.in_order.ports; intfs = is.in_order.intfs; macs = is.in_order.macs; neighbors = is.in_order.neighbors; routes = is.in_order.routes }; ports = new_ports; intfs = new_intfs; intfs_apart = is.intfs_apart; neighbors = is.neighbors; macs = new_macs; routes = is.routes }

pub other_ports : (m : PlainState) (l : List (ℕ × PortRec)) → IsLinked m → Ascends nat_cmp l → Every nat_cmp (IsPort m.vlans) l → Every neighbor_cmp (IsNeighbor l m.intfs) m.neighbors → Every l2_cmp (IsStation m.vlans l) m.macs → IsLinked (record m { ports = l })
other_ports m l is ascends new_ports new_neighbors new_macs = record { in_order = record { vlans = is.in_order.vlans; ports = ascends; intfs = is.in_order.intfs; macs = is.in_order.macs; neighbors = is.in_order.neighbors; routes = is.in_order.routes }; ports = new_ports; intfs = is.intfs; intfs_apart = is.intfs_apart; neighbors = new_neighbors; macs = new_macs; routes = is.routes }

pub other_intfs : (m : PlainState) (l : List (ℕ × IntfRec)) → IsLinked m → Ascends nat_cmp l → Every nat_cmp (IsIntf m.vlans) l → EachTwo nat_cmp AreApart l → Every neighbor_cmp (IsNeighbor m.ports l) m.neighbors → IsLinked (record m { intfs = l })
other_intfs m l is ascends new_intfs new_intfs_apart new_neighbors = record { in_order = record { vlans = is.in_order.vlans; ports = is.in_order.ports; intfs = ascends; macs = is.in_order.macs; neighbors = is.in_order.neighbors; routes = is.in_order.routes }; ports = is.ports; intfs = new_intfs; intfs_apart = new_intfs_apart; neighbors = new_neighbors; macs = is.macs; routes = is.routes }

pub other_macs : (m : PlainState) (l : List (L2Key × MacRec)) → IsLinked m → Ascends l2_cmp l → Every l2_cmp (IsStation m.vlans m.ports) l → IsLinked (record m { macs = l })
other_macs m l is ascends new_macs = record { in_order = record { vlans = is.in_order.vlans; ports = is.in_order.ports; intfs = is.in_order.intfs; macs = ascends; neighbors = is.in_order.neighbors; routes = is.in_order.routes }; ports = is.ports; intfs = is.intfs; intfs_apart = is.intfs_apart; neighbors = is.neighbors; macs = new_macs; routes = is.routes }

pub other_neighbors : (m : PlainState) (l : List (NeighborKey × NeighborRec)) → IsLinked m → Ascends neighbor_cmp l → Every neighbor_cmp (IsNeighbor m.ports m.intfs) l → IsLinked (record m { neighbors = l })
other_neighbors m l is ascends new_neighbors = record { in_order = record { vlans = is.in_order.vlans; ports = is.in_order.ports; intfs = is.in_order.intfs; macs = is.in_order.macs; neighbors = ascends; routes = is.in_order.routes }; ports = is.ports; intfs = is.intfs; intfs_apart = is.intfs_apart; neighbors = new_neighbors; macs = is.macs; routes = is.routes }

pub other_routes : (m : PlainState) (l : List (RibKey × RouteRec)) → IsLinked m → Ascends rib_cmp l → Every rib_cmp IsRoute l → IsLinked (record m { routes = l })
other_routes m l is ascends new_routes = record { in_order = record { vlans = is.in_order.vlans; ports = is.in_order.ports; intfs = is.in_order.intfs; macs = is.in_order.macs; neighbors = is.in_order.neighbors; routes = ascends }; ports = is.ports; intfs = is.intfs; intfs_apart = is.intfs_apart; neighbors = is.neighbors; macs = is.macs; routes = new_routes }
