-- The value of a whole, from the values of its members.
use Rattle.std.proofs.Common.{◌≡◌, ℕ, codes}
use Rattle.serde_json.specs.Data.{Data, object, member, no_members}
use Rattle.net_types.specs.declared.table.Caps.{Caps}
use Rattle.net_types.specs.declared.table.Tables.{Tables}
use Rattle.switch_model.specs.PlainState.{PlainState}
use Rattle.json_form.specs.Lists.{rows_json}
use Rattle.saved_rows.specs.ChipRows.{group_json, host_json, l2_json, route_json}
use Rattle.saved_rows.specs.StateRows.{intf_json, neighbor_json, port_json, rib_json, station_json, vlan_json}
use Rattle.saved_rows.specs.Values.{number_json}
use Rattle.saved_state.specs.Contents.{body_json, caps_json, chip_json, state_json}
use Rattle.saved_state.specs.Texts.{body_to_save}

pub chip_said : (t : Tables) (group host l2 route : Data) → group ≡ rows_json group_json t.group → host ≡ rows_json host_json t.host → l2 ≡ rows_json l2_json t.l2 → route ≡ rows_json route_json t.route
    → object (member (codes "group") group (member (codes "host") host (member (codes "l2") l2 (member (codes "route") route no_members)))) ≡ chip_json t
chip_said t group host l2 route one two three four = rw (one, two, three, four)

pub state_said : (m : PlainState) (intfs macs neighbors ports routes vlans : Data)
    → intfs ≡ rows_json intf_json m.intfs → macs ≡ rows_json station_json m.macs → neighbors ≡ rows_json neighbor_json m.neighbors → ports ≡ rows_json port_json m.ports → routes ≡ rows_json rib_json m.routes → vlans ≡ rows_json vlan_json m.vlans
    → object (member (codes "intfs") intfs (member (codes "macs") macs (member (codes "neighbors") neighbors (member (codes "ports") ports (member (codes "routes") routes (member (codes "vlans") vlans no_members)))))) ≡ state_json m
state_said m intfs macs neighbors ports routes vlans one two three four five six = rw (one, two, three, four, five, six)

pub body_said : (m : PlainState) (version : ℕ) (tables : Tables) (caps : Caps) (ground chip state : Data) (number : ℕ)
    → ground ≡ caps_json caps → chip ≡ chip_json tables → state ≡ state_json m → number ≡ version
    → object (member (codes "caps") ground (member (codes "chip") chip (member (codes "format") (number_json 1) (member (codes "state") state (member (codes "version") (number_json number) no_members))))) ≡ body_json (body_to_save m version tables caps)
body_said m version tables caps ground chip state number one two three four = rw (one, two, three, four)
