-- The forms of the body and of the whole.
use Rattle.std.proofs.Common.{◌≡◌, true, codes, refl, arith}
use Rattle.serde_json.specs.Data.{Data, object, member, no_members}
use Rattle.net_types.specs.KeyOrder.{l2_cmp, route_cmp}
use Rattle.switch_model.specs.StateKeys.{neighbor_cmp, rib_cmp}
use Rattle.json_form.specs.Arrays.{IsWithin}
use Rattle.json_form.specs.Form.{Form}
use Rattle.json_form.specs.Objects.{object_of}
use Rattle.json_form.proofs.FormLaws.{constant_form, deeper, legally, number_form, quad_form, reworded, text_form, turned}
use Rattle.json_form.proofs.ListLaws.{rows_form}
use Rattle.json_form.proofs.ObjectLaws.{end_form, field_form, object_form}
use Rattle.saved_rows.specs.ChipRows.{by_slot, hosts_by_slot}
use Rattle.saved_rows.specs.StateRows.{by_key, by_number}
use Rattle.saved_rows.specs.Values.{number_json}
use Rattle.saved_rows.proofs.ChipForms.{group_form, host_form, l2_form, route_form}
use Rattle.saved_rows.proofs.StateForms.{intf_form, neighbor_form, port_form, rib_form, station_form, vlan_form}
use Rattle.saved_state.specs.Contents.{AreLists, AreTables, Body, IsCaps, IsLegal, Parts, body_from, body_json, body_of, caps_json, caps_of, chip_json, chip_of, contents_of, first, parts_in, saved_json, saved_of, state_from, state_json, state_of, tables_from}
use Rattle.saved_state.specs.Digest.{is_digest}

pub caps_form : Form 1 caps_of caps_json IsCaps
caps_form = turned (quad_form (number_form 0 65536) (number_form 0 65536) (number_form 0 4096) (number_form 0 65536)) (λ p. record { l2 = p.0; host = p.1; group = p.2; route = p.3 }) (λ c. (c.l2, c.host, c.group, c.route)) (λ x. refl) (λ y. refl)

pub chip_form : Form 5 chip_of chip_json AreTables
chip_form = legally
    (turned (object_form
    (field_form (codes "group") (rows_form group_form by_slot)
    (field_form (codes "host") (deeper (rows_form host_form hosts_by_slot) 4 (omega arith))
    (field_form (codes "l2") (deeper (rows_form l2_form (by_key l2_cmp)) 4 (omega arith))
    (field_form (codes "route") (deeper (rows_form route_form (by_key route_cmp)) 4 (omega arith)) (end_form 4))))))
    tables_from (λ t. (t.group, (t.host, (t.l2, (t.route, tt))))) (λ x. refl) (λ y. refl))
    AreTables
    (λ t h. record { group = h.0; host = h.1.0; l2 = h.1.1.0; route = h.1.1.1.0 })
    (λ t h. (h.group, (h.host, (h.l2, (h.route, tt)))))

pub state_form : Form 4 state_of state_json AreLists
state_form = legally
    (turned (object_form
    (field_form (codes "intfs") (rows_form intf_form by_number)
    (field_form (codes "macs") (deeper (rows_form station_form (by_key l2_cmp)) 3 (omega arith))
    (field_form (codes "neighbors") (deeper (rows_form neighbor_form (by_key neighbor_cmp)) 3 (omega arith))
    (field_form (codes "ports") (deeper (rows_form port_form by_number) 3 (omega arith))
    (field_form (codes "routes") (rows_form rib_form (by_key rib_cmp))
    (field_form (codes "vlans") (deeper (rows_form vlan_form by_number) 3 (omega arith)) (end_form 3))))))))
    state_from (λ m. (m.intfs, (m.macs, (m.neighbors, (m.ports, (m.routes, (m.vlans, tt))))))) (λ x. refl) (λ y. refl))
    AreLists
    (λ m h. record { intfs = h.0; macs = h.1.0; neighbors = h.1.1.0; ports = h.1.1.1.0; routes = h.1.1.1.1.0; vlans = h.1.1.1.1.1.0 })
    (λ m h. (h.intfs, (h.macs, (h.neighbors, (h.ports, (h.routes, (h.vlans, tt)))))))

abbrev parts_json : Parts → Data
parts_json p =
    object (member (codes "caps") (caps_json p.0)
    (member (codes "chip") (chip_json p.1.0)
    (member (codes "format") (number_json 1)
    (member (codes "state") (state_json p.1.1.1.0)
    (member (codes "version") (number_json p.1.1.1.1.0) no_members)))))

abbrev AreParts : Parts → Type 0
AreParts p = IsCaps p.0 × (AreTables p.1.0 × (Unit {0} × (AreLists p.1.1.1.0 × (IsWithin 0 9223372036854775807 p.1.1.1.1.0 × Unit {0}))))

parts_form : Form 6 (object_of parts_in) parts_json AreParts
parts_form = object_form
    (field_form (codes "caps") (deeper caps_form 5 (omega arith))
    (field_form (codes "chip") chip_form
    (field_form (codes "format") (deeper (constant_form 1) 5 (omega arith))
    (field_form (codes "state") (deeper state_form 5 (omega arith))
    (field_form (codes "version") (deeper (number_form 0 9223372036854775807) 5 (omega arith)) (end_form 5))))))

abbrev parts_of : Body → Parts
parts_of (first c) = (c.caps, (c.tables, (tt, (c.state, (c.version, tt)))))

there : (p : Parts) → parts_of (body_from p) ≡ p
there p = refl

back : (b : Body) → body_from (parts_of b) ≡ b
back (first c) = refl

said : (b : Body) → parts_json (parts_of b) ≡ body_json b
said (first c) = refl

legal_there : (b : Body) → AreParts (parts_of b) → IsLegal (contents_of b)
legal_there (first c) h = record { caps = h.0; tables = h.1.0; state = h.1.1.1.0; version = h.1.1.1.1.0 }

legal_back : (b : Body) → IsLegal (contents_of b) → AreParts (parts_of b)
legal_back (first c) h = (h.caps, (h.tables, (tt, (h.state, (h.version, tt)))))

pub body_form : Form 6 body_of body_json (λ b. IsLegal (contents_of b))
body_form = legally (reworded (turned parts_form body_from parts_of there back) body_json said) (λ b. IsLegal (contents_of b)) legal_there legal_back

pub saved_form : Form 7 saved_of (λ p. saved_json p.0 p.1.0) (λ p. IsLegal (contents_of p.0) × ((is_digest p.1.0 ≡ true) × Unit {0}))
saved_form = object_form (field_form (codes "body") body_form (field_form (codes "digest") (deeper (text_form is_digest) 6 (omega arith)) (end_form 6)))
