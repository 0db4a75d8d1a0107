use Rattle.std.proofs.Common.{All, ap, subst, ◌∙◌}
use Rattle.node_map.specs.Map.{MapView}
use Rattle.switch_model.specs.declared.record.IntfRec.{IntfRec}
use Rattle.switch_model.specs.declared.record.MacRec.{MacRec}
use Rattle.switch_model.specs.declared.record.PortRec.{PortRec}
use Rattle.switch_model.specs.declared.record.RouteRec.{RouteRec}
use Rattle.switch_model.specs.declared.record.VlanRec.{VlanRec}
use Rattle.state_keys.specs.PartKeys.{intf_of, port_of, rib_of, station_of, vlan_of}
use Rattle.state_scan.specs.Listed.{listed}
use Rattle.state_scan.proofs.Neighbors.{neighbors_as}
use Rattle.switch_state.specs.Plain.{plain}
use Rattle.json_form.specs.Lists.{rows_json}
use Rattle.saved_rows.specs.StateRows.{IsIntfRow, IsNeighborRow, IsPortRow, IsRibRow, IsStationRow, IsVlanRow, intf_json, neighbor_json, port_json, rib_json, station_json, vlan_json}
use Rattle.saved_state.proofs.Orders.{are_lists}
use Rattle.saved_state.proofs.Said.{state_said}
use Rattle.saved_state.proofs.save.state_value.Goals as goal

pub neighbors_value-requires : goal.neighbors_value-requires
neighbors_value-requires c = record { by_arp = c.arps.ensures.part.numbers; ascends = c.arps.ensures.part.ascends; by_ndp = c.ndps.ensures.part.numbers }

pub returns-clause-legal : goal.returns-clause-legal
returns-clause-legal c = are_lists (plain c.args.state.now) c.shape.ensures.order
    (subst (λ (m : MapView IntfRec). All IsIntfRow (listed intf_of m.entries)) c.intfs.ensures.map c.in_ok-intfs.ensures.legal)
    (subst (λ (m : MapView MacRec). All IsStationRow (listed station_of m.entries)) c.macs.ensures.map c.in_ok-macs.ensures.legal)
    (subst (All IsNeighborRow) (neighbors_as c.arps.ensures.map c.ndps.ensures.map) c.in_ok-neighbors.ensures.legal)
    (subst (λ (m : MapView PortRec). All IsPortRow (listed port_of m.entries)) c.ports.ensures.map c.in_ok-ports.ensures.legal)
    (subst (λ (m : MapView RouteRec). All IsRibRow (listed rib_of m.entries)) c.routes.ensures.map c.in_ok-routes.ensures.legal)
    (subst (λ (m : MapView VlanRec). All IsVlanRow (listed vlan_of m.entries)) c.vlans.ensures.map c.in_ok-vlans.ensures.legal)

pub returns-clause-value : goal.returns-clause-value
returns-clause-value c = c.in_ok-value.ensures ∙ state_said (plain c.args.state.now) _ _ _ _ _ _
    (c.in_ok-intfs.ensures.value ∙ ap (λ (m : MapView IntfRec). rows_json intf_json (listed intf_of m.entries)) c.intfs.ensures.map)
    (c.in_ok-macs.ensures.value ∙ ap (λ (m : MapView MacRec). rows_json station_json (listed station_of m.entries)) c.macs.ensures.map)
    (c.in_ok-neighbors.ensures.value ∙ ap (rows_json neighbor_json) (neighbors_as c.arps.ensures.map c.ndps.ensures.map))
    (c.in_ok-ports.ensures.value ∙ ap (λ (m : MapView PortRec). rows_json port_json (listed port_of m.entries)) c.ports.ensures.map)
    (c.in_ok-routes.ensures.value ∙ ap (λ (m : MapView RouteRec). rows_json rib_json (listed rib_of m.entries)) c.routes.ensures.map)
    (c.in_ok-vlans.ensures.value ∙ ap (λ (m : MapView VlanRec). rows_json vlan_json (listed vlan_of m.entries)) c.vlans.ensures.map)
