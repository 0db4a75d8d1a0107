-- The state of the switch: what stands under each key.
use Rattle.std.specs.Prelude.{ℕ, Option, List, []}
use Rattle.std.specs.Ordering.{nat_cmp}
use Rattle.keyed.specs.Keyed.{at, Ascends}
use Rattle.net_types.specs.KeyOrder.{l2_cmp}
use Rattle.net_types.specs.declared.table.L2Key.{L2Key}
use Rattle.switch_model.specs.declared.key.NeighborKey.{NeighborKey}
use Rattle.switch_model.specs.declared.key.RibKey.{RibKey}
use Rattle.switch_model.specs.declared.record.IntfRec.{IntfRec}
use Rattle.switch_model.specs.declared.record.MacRec.{MacRec}
use Rattle.switch_model.specs.declared.record.NeighborRec.{NeighborRec}
use Rattle.switch_model.specs.declared.record.PortRec.{PortRec}
use Rattle.switch_model.specs.declared.record.RouteRec.{RouteRec}
use Rattle.switch_model.specs.declared.record.VlanRec.{VlanRec}
use Rattle.switch_model.specs.StateKeys.{neighbor_cmp, rib_cmp}

-- each part ascends by key; neighbours by ARP and by NDP stand in one part
pub record PlainState : Type 0 where
  pub vlans : List (ℕ × VlanRec)
  pub ports : List (ℕ × PortRec)
  pub intfs : List (ℕ × IntfRec)
  pub macs : List (L2Key × MacRec)
  pub neighbors : List (NeighborKey × NeighborRec)
  pub routes : List (RibKey × RouteRec)

-- nothing stands anywhere
abbrev pub empty : PlainState
empty = record { vlans = []; ports = []; intfs = []; macs = []; neighbors = []; routes = [] }

-- each part of the state ascends by key, so that no key stands twice in it
pub record ArePartsInOrder (m : PlainState) : Type 0 where
  pub vlans : Ascends nat_cmp m.vlans
  pub ports : Ascends nat_cmp m.ports
  pub intfs : Ascends nat_cmp m.intfs
  pub macs : Ascends l2_cmp m.macs
  pub neighbors : Ascends neighbor_cmp m.neighbors
  pub routes : Ascends rib_cmp m.routes

-- the record of the VLAN, where it is there
abbrev pub vlan_at : PlainState → ℕ → Option VlanRec
vlan_at m vlan = at nat_cmp vlan m.vlans

-- the record of the port, where it is there
abbrev pub port_at : PlainState → ℕ → Option PortRec
port_at m port = at nat_cmp port m.ports

-- the record of the interface, where it is there
abbrev pub intf_at : PlainState → ℕ → Option IntfRec
intf_at m intf = at nat_cmp intf m.intfs

-- the record of the station, where it is there
abbrev pub mac_at : PlainState → L2Key → Option MacRec
mac_at m key = at l2_cmp key m.macs

-- the record of the neighbour, where it is there
abbrev pub neighbor_at : PlainState → NeighborKey → Option NeighborRec
neighbor_at m key = at neighbor_cmp key m.neighbors

-- the record of the route, where it is there
abbrev pub route_at : PlainState → RibKey → Option RouteRec
route_at m key = at rib_cmp key m.routes

-- what routes are looked up in: the interfaces and the routes
pub record Rib : Type 0 where
  pub intfs : List (ℕ × IntfRec)
  pub routes : List (RibKey × RouteRec)

-- those of a state
abbrev pub rib : PlainState → Rib
rib m = record { intfs = m.intfs; routes = m.routes }
