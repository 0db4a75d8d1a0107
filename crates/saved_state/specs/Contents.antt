-- What a saved text says, and the value of JSON that says it.
use Rattle.std.specs.Prelude.{ℕ, List, map, codes, Option, option_map}
use Rattle.std.specs.List.{AllByRecursion}
use Rattle.std.specs.declared.cmp.Ordering.{Ordering}
use Rattle.serde_json.specs.Data.{Data, object, Members, no_members, member, string}
use Rattle.std.specs.Ordering.{nat_cmp}
use Rattle.keyed.specs.Keyed as keyed
use Rattle.net_types.specs.declared.group.Member.{Member}
use Rattle.net_types.specs.declared.table.Caps.{Caps}
use Rattle.net_types.specs.declared.table.HostKey.{HostKey}
use Rattle.net_types.specs.declared.table.HostRow.{HostRow}
use Rattle.net_types.specs.declared.table.L2Key.{L2Key}
use Rattle.net_types.specs.declared.table.L2Row.{L2Row}
use Rattle.net_types.specs.declared.table.RouteKey.{RouteKey}
use Rattle.net_types.specs.declared.table.RouteRow.{RouteRow}
use Rattle.net_types.specs.declared.table.Tables.{Tables}
use Rattle.net_types.specs.KeyOrder.{l2_cmp, route_cmp}
use Rattle.switch_model.specs.declared.key.NeighborKey.{NeighborKey}
use Rattle.switch_model.specs.declared.key.RibKey.{RibKey}
use Rattle.switch_model.specs.declared.record.IntfRec.{IntfRec}
use Rattle.switch_model.specs.declared.record.MacRec.{MacRec}
use Rattle.switch_model.specs.declared.record.NeighborRec.{NeighborRec}
use Rattle.switch_model.specs.declared.record.PortRec.{PortRec}
use Rattle.switch_model.specs.declared.record.RouteRec.{RouteRec}
use Rattle.switch_model.specs.declared.record.VlanRec.{VlanRec}
use Rattle.switch_model.specs.PlainState.{PlainState}
use Rattle.switch_model.specs.StateKeys.{neighbor_cmp, rib_cmp}
use Rattle.json_form.specs.Arrays.{IsWithin, constant_of, number_of, quad_json, quad_of, text_of}
use Rattle.json_form.specs.Lists.{Ascends, rows_json, rows_of}
use Rattle.json_form.specs.Objects.{end_of, field_of, object_of}
use Rattle.saved_rows.specs.ChipRows.{IsGroup, IsHost, IsL2, IsRoute, by_slot, group_json, group_of, host_json, host_of, hosts_by_slot, l2_json, l2_of, route_json, route_of}
use Rattle.saved_rows.specs.StateRows.{IsIntfRow, IsNeighborRow, IsPortRow, IsRibRow, IsStationRow, IsVlanRow, by_key, by_number, intf_json, intf_of, neighbor_json, neighbor_of, port_json, port_of, rib_json, rib_of, station_json, station_of, vlan_json, vlan_of}
use Rattle.saved_rows.specs.Values.{number_json}
use Rattle.saved_state.specs.Digest.{is_digest}

-- capacities, the chip's tables, the state and its version
pub record Contents : Type 0 where
  pub caps : Caps
  pub tables : Tables
  pub state : PlainState
  pub version : ℕ

-- a body in the format that its number tells: there is one
pub data Body : Type 0 where
  first : Contents → Body

-- what it says
abbrev pub contents_of : Body → Contents
contents_of (first c) = c

-- `[l2, host, group, route]`
abbrev pub caps_json : Caps → Data
caps_json caps = quad_json number_json number_json number_json number_json (caps.l2, caps.host, caps.group, caps.route)

-- the lists of the chip, by name
abbrev pub chip_json : Tables → Data
chip_json t =
    object (member (codes "group") (rows_json group_json t.group)
    (member (codes "host") (rows_json host_json t.host)
    (member (codes "l2") (rows_json l2_json t.l2)
    (member (codes "route") (rows_json route_json t.route) no_members))))

-- the lists of the state, by name
abbrev pub state_json : PlainState → Data
state_json m =
    object (member (codes "intfs") (rows_json intf_json m.intfs)
    (member (codes "macs") (rows_json station_json m.macs)
    (member (codes "neighbors") (rows_json neighbor_json m.neighbors)
    (member (codes "ports") (rows_json port_json m.ports)
    (member (codes "routes") (rows_json rib_json m.routes)
    (member (codes "vlans") (rows_json vlan_json m.vlans) no_members))))))

-- the body's members, by name
abbrev pub body_json : Body → Data
body_json (first c) =
    object (member (codes "caps") (caps_json c.caps)
    (member (codes "chip") (chip_json c.tables)
    (member (codes "format") (number_json 1)
    (member (codes "state") (state_json c.state)
    (member (codes "version") (number_json c.version) no_members)))))

-- the whole, with a digest
abbrev pub saved_json : Body → List ℕ → Data
saved_json b digest = object (member (codes "body") (body_json b) (member (codes "digest") (string digest) no_members))

-- each row is in its range, and the rows ascend
abbrev pub AreRows : {A : Type 0} → (A → Type 0) → (A → A → Ordering) → List A → Type 0
AreRows Is cmp rows = Ascends cmp rows × AllByRecursion Is rows

-- capacities within those of the largest chip
abbrev pub IsCaps : Caps → Type 0
IsCaps c = IsWithin 0 65536 c.l2 × IsWithin 0 65536 c.host × IsWithin 0 4096 c.group × IsWithin 0 65536 c.route

-- the chip's rows are in their ranges, and ascend
pub record AreTables (t : Tables) : Type 0 where
  pub group : AreRows IsGroup by_slot t.group
  pub host : AreRows IsHost hosts_by_slot t.host
  pub l2 : AreRows IsL2 (by_key l2_cmp) t.l2
  pub route : AreRows IsRoute (by_key route_cmp) t.route

-- the state's rows are in their ranges, and ascend
pub record AreLists (m : PlainState) : Type 0 where
  pub intfs : AreRows IsIntfRow by_number m.intfs
  pub macs : AreRows IsStationRow (by_key l2_cmp) m.macs
  pub neighbors : AreRows IsNeighborRow (by_key neighbor_cmp) m.neighbors
  pub ports : AreRows IsPortRow by_number m.ports
  pub routes : AreRows IsRibRow (by_key rib_cmp) m.routes
  pub vlans : AreRows IsVlanRow by_number m.vlans

-- the chip's rows ascend by slot or by key, as those of every chip do
pub record AreTablesInOrder (t : Tables) : Type 0 where
  pub group : keyed.Ascends nat_cmp t.group
  pub host : keyed.Ascends {V = HostKey × HostRow} nat_cmp (map (λ h. (h.0, (h.1, h.2))) t.host)
  pub l2 : keyed.Ascends l2_cmp t.l2
  pub route : keyed.Ascends route_cmp t.route

-- everything is in its range and in its order
pub record IsLegal (c : Contents) : Type 0 where
  pub caps : IsCaps c.caps
  pub tables : AreTables c.tables
  pub state : AreLists c.state
  pub version : IsWithin 0 9223372036854775807 c.version

-- ---- read

abbrev pub caps_of : Data → Option Caps
caps_of d = option_map (λ p. record { l2 = p.0; host = p.1; group = p.2; route = p.3 }) (quad_of (number_of 0 65536) (number_of 0 65536) (number_of 0 4096) (number_of 0 65536) d)

abbrev pub ChipParts : Type 0
ChipParts = List (ℕ × List Member) × (List (ℕ × HostKey × HostRow) × (List (L2Key × L2Row) × (List (RouteKey × RouteRow) × Unit {0})))

abbrev pub chip_in : Members → Option ChipParts
chip_in = field_of (codes "group") (rows_of group_of by_slot) (field_of (codes "host") (rows_of host_of hosts_by_slot) (field_of (codes "l2") (rows_of l2_of (by_key l2_cmp)) (field_of (codes "route") (rows_of route_of (by_key route_cmp)) end_of)))

abbrev pub tables_from : ChipParts → Tables
tables_from p = record { l2 = p.1.1.0; host = p.1.0; group = p.0; route = p.1.1.1.0 }

abbrev pub chip_of : Data → Option Tables
chip_of d = option_map tables_from (object_of chip_in d)

abbrev pub LastParts : Type 0
LastParts = List (ℕ × PortRec) × (List (RibKey × RouteRec) × (List (ℕ × VlanRec) × Unit {0}))

abbrev pub StateParts : Type 0
StateParts = List (ℕ × IntfRec) × (List (L2Key × MacRec) × (List (NeighborKey × NeighborRec) × LastParts))

abbrev pub last_in : Members → Option LastParts
last_in = field_of (codes "ports") (rows_of port_of by_number) (field_of (codes "routes") (rows_of rib_of (by_key rib_cmp)) (field_of (codes "vlans") (rows_of vlan_of by_number) end_of))

abbrev pub state_in : Members → Option StateParts
state_in = field_of (codes "intfs") (rows_of intf_of by_number) (field_of (codes "macs") (rows_of station_of (by_key l2_cmp)) (field_of (codes "neighbors") (rows_of neighbor_of (by_key neighbor_cmp)) last_in))

abbrev pub state_from : StateParts → PlainState
state_from p = record { vlans = p.1.1.1.1.1.0; ports = p.1.1.1.0; intfs = p.0; macs = p.1.0; neighbors = p.1.1.0; routes = p.1.1.1.1.0 }

abbrev pub state_of : Data → Option PlainState
state_of d = option_map state_from (object_of state_in d)

abbrev pub Parts : Type 0
Parts = Caps × (Tables × (Unit {0} × (PlainState × (ℕ × Unit {0}))))

abbrev pub version_in : Members → Option (ℕ × Unit {0})
version_in = field_of (codes "version") (number_of 0 9223372036854775807) end_of

abbrev pub rest_in : Members → Option (Unit {0} × (PlainState × (ℕ × Unit {0})))
rest_in = field_of (codes "format") (constant_of 1) (field_of (codes "state") state_of version_in)

abbrev pub parts_in : Members → Option Parts
parts_in = field_of (codes "caps") caps_of (field_of (codes "chip") chip_of rest_in)

abbrev pub body_from : Parts → Body
body_from p = first (record { caps = p.0; tables = p.1.0; state = p.1.1.1.0; version = p.1.1.1.1.0 })

abbrev pub body_of : Data → Option Body
body_of d = option_map body_from (object_of parts_in d)

abbrev pub saved_of : Data → Option (Body × (List ℕ × Unit {0}))
saved_of = object_of (field_of (codes "body") body_of (field_of (codes "digest") (text_of is_digest) end_of))
