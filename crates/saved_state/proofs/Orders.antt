-- The orders and ranges of a saved text's lists, from those of a state and of a chip.
use Rattle.std.proofs.Common.{ℕ, List, [], ◌∷◌, All, map}
use Rattle.std.specs.Ordering.{nat_cmp}
use Rattle.std.specs.declared.cmp.Ordering.{Ordering}
use Rattle.keyed.specs.Keyed as keyed
use Rattle.net_types.specs.declared.table.HostKey.{HostKey}
use Rattle.net_types.specs.declared.table.HostRow.{HostRow}
use Rattle.net_types.specs.declared.table.Tables.{Tables}
use Rattle.net_types.specs.KeyOrder.{l2_cmp, route_cmp}
use Rattle.switch_model.specs.PlainState.{ArePartsInOrder, PlainState}
use Rattle.switch_model.specs.StateKeys.{neighbor_cmp, rib_cmp}
use Rattle.json_form.specs.Lists.{Ascends}
use Rattle.saved_rows.specs.ChipRows.{IsGroup, IsHost, IsL2, IsRoute, hosts_by_slot}
use Rattle.saved_rows.specs.StateRows.{IsIntfRow, IsNeighborRow, IsPortRow, IsRibRow, IsStationRow, IsVlanRow, by_key}
use Rattle.saved_state.specs.Contents.{AreLists, AreTables, AreTablesInOrder}
use Rattle.saved_state.proofs.Rows.{each_by}

keys_ascend : {K A : Type 0} (cmp : K → K → Ordering) (l : List (K × A)) → keyed.Ascends cmp l → Ascends (by_key cmp) l
keys_ascend cmp [] h = tt
keys_ascend cmp (x ∷ []) h = tt
keys_ascend cmp (x ∷ y ∷ rest) h = (h.0, keys_ascend cmp (y ∷ rest) h.1)

hosts_ascend : (l : List (ℕ × HostKey × HostRow)) → keyed.Ascends {V = HostKey × HostRow} nat_cmp (map (λ h. (h.0, (h.1, h.2))) l) → Ascends hosts_by_slot l
hosts_ascend [] h = tt
hosts_ascend (x ∷ []) h = tt
hosts_ascend (x ∷ y ∷ rest) h = (h.0, hosts_ascend (y ∷ rest) h.1)

pub are_tables : (t : Tables) → All IsGroup t.group → All IsHost t.host → All IsL2 t.l2 → All IsRoute t.route → AreTablesInOrder t → AreTables t
are_tables t groups hosts stations routes up = record {
  group = (keys_ascend nat_cmp t.group up.group, each_by IsGroup t.group groups);
  host = (hosts_ascend t.host up.host, each_by IsHost t.host hosts);
  l2 = (keys_ascend l2_cmp t.l2 up.l2, each_by IsL2 t.l2 stations);
  route = (keys_ascend route_cmp t.route up.route, each_by IsRoute t.route routes);
}

pub are_lists : (m : PlainState) → ArePartsInOrder m → All IsIntfRow m.intfs → All IsStationRow m.macs → All IsNeighborRow m.neighbors → All IsPortRow m.ports → All IsRibRow m.routes → All IsVlanRow m.vlans → AreLists m
are_lists m up intfs macs neighbors ports routes vlans = record {
  intfs = (keys_ascend nat_cmp m.intfs up.intfs, each_by IsIntfRow m.intfs intfs);
  macs = (keys_ascend l2_cmp m.macs up.macs, each_by IsStationRow m.macs macs);
  neighbors = (keys_ascend neighbor_cmp m.neighbors up.neighbors, each_by IsNeighborRow m.neighbors neighbors);
  ports = (keys_ascend nat_cmp m.ports up.ports, each_by IsPortRow m.ports ports);
  routes = (keys_ascend rib_cmp m.routes up.routes, each_by IsRibRow m.routes routes);
  vlans = (keys_ascend nat_cmp m.vlans up.vlans, each_by IsVlanRow m.vlans vlans);
}
