-- The forms of the rows of the state's lists.
use Rattle.std.proofs.Common.{◌≡◌, ◌⊎◌, ℕ, List, None, codes, inl, inr, refl, arith}
use Rattle.std.specs.List.{AllByRecursion}
use Rattle.serde_json.specs.Data.{Data}
use Rattle.net_types.specs.declared.client.Client.{Client}
use Rattle.net_types.specs.declared.hop.Hop.{Hop}
use Rattle.net_types.specs.declared.ip.Ip.{Ip}
use Rattle.net_types.specs.Cidr.{Cidr}
use Rattle.net_types.specs.KeyOrder.{hop_cmp}
use Rattle.net_types.specs.Names.{is_vlan_name}
use Rattle.switch_model.specs.declared.key.NeighborKey.{NeighborKey}
use Rattle.switch_model.specs.declared.key.RibKey.{RibKey}
use Rattle.switch_model.specs.declared.record.NeighborRec.{NeighborRec}
use Rattle.switch_model.specs.declared.record.NeighborRec.TheVariants.{Pending, Reachable}
use Rattle.switch_model.specs.declared.record.RouteRec.{RouteRec}
use Rattle.switch_model.specs.declared.record.RouteRec.TheVariants.{Hops, ToCpu, Discard}
use Rattle.switch_model.specs.Addresses.{addr_cmp}
use Rattle.json_form.specs.Arrays.{IsEither, either_json, either_of, pair_json, quad_json, quint_json}
use Rattle.json_form.specs.Form.{Form}
use Rattle.json_form.specs.Lists.{Ascends, rows_json}
use Rattle.json_form.proofs.FormLaws.{boolean_form, deeper, either_form, legally, pair_form, quad_form, quint_form, reworded, text_form, triple_form, turned, word_form}
use Rattle.json_form.proofs.ListLaws.{rows_form}
use Rattle.saved_rows.specs.Values.{IsAddrText, IsClient, IsHopText, IsIntf, IsIpText, IsMacText, IsPort, IsPrefixText, IsVrf, addr_json, client_json, hop_json, ip_json, mac_json, number_json, prefix_json, word_json}
use Rattle.saved_rows.specs.StateRows.{IsIntfRow, IsNeighborRow, IsPortRow, IsRibRow, IsStationRow, IsVlanRow, Sides, Vias, addrs_of, hops_of, intf_json, intf_of, intf_row, neighbor_json, neighbor_of, neighbor_row, port_json, port_of, port_row, rib_json, rib_of, rib_row, station_json, station_of, station_row, via_of, vlan_json, vlan_of, vlan_row, word_route_of}
use Rattle.saved_rows.proofs.ValueForms.{addr_form, client_form, hop_form, intf_number_form, ip_form, mac_form, port_number_form, prefix_form, vlan_number_form, vrf_form}

pub vlan_form : Form 1 vlan_of vlan_json IsVlanRow
vlan_form = turned (pair_form vlan_number_form (text_form is_vlan_name)) vlan_row (λ e. (e.0, e.1.name)) (λ x. refl) (λ y. refl)

pub port_form : Form 1 port_of port_json IsPortRow
port_form = turned (triple_form port_number_form vlan_number_form boolean_form) port_row (λ e. (e.0, e.1.vlan, e.1.up)) (λ x. refl) (λ y. refl)

addrs_form : Form 1 addrs_of (rows_json addr_json) (λ addrs. Ascends addr_cmp addrs × AllByRecursion IsAddrText addrs)
addrs_form = rows_form addr_form addr_cmp

pub intf_form : Form 2 intf_of intf_json IsIntfRow
intf_form = turned (quint_form (deeper intf_number_form 1 (omega arith)) (deeper vlan_number_form 1 (omega arith)) (deeper vrf_form 1 (omega arith)) (deeper mac_form 1 (omega arith)) addrs_form) intf_row (λ e. (e.0, e.1.vlan, e.1.vrf, e.1.mac, e.1.addrs)) (λ x. refl) (λ y. refl)

pub station_form : Form 1 station_of station_json IsStationRow
station_form = turned (triple_form vlan_number_form mac_form port_number_form) station_row (λ e. (e.0.vlan, e.0.mac, e.1.port)) (λ x. refl) (λ y. refl)

-- ---- neighbours

abbrev sides : NeighborKey → NeighborRec → Sides
sides key Pending = inl (key.intf, key.ip)
sides key (Reachable mac port) = inr (key.intf, key.ip, mac, port)

there : (x : Sides) → sides (neighbor_row x).0 (neighbor_row x).1 ≡ x
there (inl p) = refl
there (inr p) = refl

back : (key : NeighborKey) (rec : NeighborRec) → neighbor_row (sides key rec) ≡ (key, rec)
back key Pending = refl
back key (Reachable mac port) = refl

said : (key : NeighborKey) (rec : NeighborRec) → either_json (pair_json number_json ip_json) (quad_json number_json ip_json mac_json number_json) (sides key rec) ≡ neighbor_json (key, rec)
said key Pending = refl
said key (Reachable mac port) = refl

abbrev IsPending : ℕ × Ip → Type 0
IsPending p = IsIntf p.0 × IsIpText p.1

abbrev IsReachable : ℕ × Ip × ℕ × ℕ → Type 0
IsReachable p = IsIntf p.0 × IsIpText p.1 × IsMacText p.2 × IsPort p.3

side_there : (key : NeighborKey) (rec : NeighborRec) → IsEither IsPending IsReachable (sides key rec) → IsNeighborRow (key, rec)
side_there key Pending h = h
side_there key (Reachable mac port) h = h

side_back : (key : NeighborKey) (rec : NeighborRec) → IsNeighborRow (key, rec) → IsEither IsPending IsReachable (sides key rec)
side_back key Pending h = h
side_back key (Reachable mac port) h = h

pub neighbor_form : Form 1 neighbor_of neighbor_json IsNeighborRow
neighbor_form = legally (reworded (turned (either_form (pair_form intf_number_form ip_form) (quad_form intf_number_form ip_form mac_form port_number_form) (λ y legal. refl)) neighbor_row (λ e. sides e.0 e.1) there (λ y. back y.0 y.1)) neighbor_json (λ e. said e.0 e.1)) IsNeighborRow (λ e. side_there e.0 e.1) (λ e. side_back e.0 e.1)

-- ---- routes

hops_form : Form 1 hops_of (rows_json hop_json) (λ hops. Ascends hop_cmp hops × AllByRecursion IsHopText hops)
hops_form = rows_form hop_form hop_cmp

abbrev Key : Type 0
Key = ℕ × Cidr × Client × Unit {0}

abbrev ViaHops : Type 0
ViaHops = ℕ × Cidr × Client × Unit {0} × List Hop

abbrev via_sides : RibKey → RouteRec → Vias
via_sides key (Hops hops) = inl (key.vrf, key.prefix, key.client, tt, hops)
via_sides key ToCpu = inr (inl (key.vrf, key.prefix, key.client, tt))
via_sides key Discard = inr (inr (key.vrf, key.prefix, key.client, tt))

via_there : (x : Vias) → via_sides (rib_row x).0 (rib_row x).1 ≡ x
via_there (inl p) = refl
via_there (inr (inl p)) = refl
via_there (inr (inr p)) = refl

via_back : (key : RibKey) (rec : RouteRec) → rib_row (via_sides key rec) ≡ (key, rec)
via_back key (Hops hops) = refl
via_back key ToCpu = refl
via_back key Discard = refl

abbrev hops_json : ViaHops → Data
hops_json = quint_json number_json prefix_json client_json (word_json (codes "via")) (rows_json hop_json)

abbrev word_json_of : List ℕ → Key → Data
word_json_of word = quad_json number_json prefix_json client_json (word_json word)

abbrev words_json : Key ⊎ Key → Data
words_json = either_json (word_json_of (codes "cpu")) (word_json_of (codes "drop"))

via_said : (key : RibKey) (rec : RouteRec) → either_json hops_json words_json (via_sides key rec) ≡ rib_json (key, rec)
via_said key (Hops hops) = refl
via_said key ToCpu = refl
via_said key Discard = refl

abbrev IsWord : Key → Type 0
IsWord p = IsVrf p.0 × IsPrefixText p.1 × IsClient p.2 × Unit {0}

abbrev IsVia : ViaHops → Type 0
IsVia p = IsVrf p.0 × IsPrefixText p.1 × IsClient p.2 × Unit {0} × (Ascends hop_cmp p.4 × AllByRecursion IsHopText p.4)

via_legal : (key : RibKey) (rec : RouteRec) → IsEither IsVia (IsEither IsWord IsWord) (via_sides key rec) → IsRibRow (key, rec)
via_legal key (Hops hops) h = ((h.0, h.1, h.2), h.4)
via_legal key ToCpu h = ((h.0, h.1, h.2), tt)
via_legal key Discard h = ((h.0, h.1, h.2), tt)

via_legal_back : (key : RibKey) (rec : RouteRec) → IsRibRow (key, rec) → IsEither IsVia (IsEither IsWord IsWord) (via_sides key rec)
via_legal_back key (Hops hops) h = (h.0.0, h.0.1, h.0.2, tt, h.1)
via_legal_back key ToCpu h = (h.0.0, h.0.1, h.0.2, tt)
via_legal_back key Discard h = (h.0.0, h.0.1, h.0.2, tt)

no_cpu : (y : Key) → IsWord y → word_route_of (codes "cpu") (word_json_of (codes "drop") y) ≡ None
no_cpu y legal = rw (vrf_form.again y.0 legal.0, prefix_form.again y.1 legal.1, client_form.again y.2 legal.2)

words_form : Form 1 (either_of (word_route_of (codes "cpu")) (word_route_of (codes "drop"))) words_json (IsEither IsWord IsWord)
words_form = either_form (quad_form vrf_form prefix_form client_form (word_form (codes "cpu"))) (quad_form vrf_form prefix_form client_form (word_form (codes "drop"))) no_cpu

no_hops : (y : Key ⊎ Key) → IsEither IsWord IsWord y → via_of (words_json y) ≡ None
no_hops (inl y) legal = refl
no_hops (inr y) legal = refl

via_form : Form 2 via_of hops_json IsVia
via_form = quint_form (deeper vrf_form 1 (omega arith)) (deeper prefix_form 1 (omega arith)) (deeper client_form 1 (omega arith)) (deeper (word_form (codes "via")) 1 (omega arith)) hops_form

pub rib_form : Form 2 rib_of rib_json IsRibRow
rib_form = legally (reworded (turned (either_form via_form (deeper words_form 2 (omega arith)) no_hops) rib_row (λ e. via_sides e.0 e.1) via_there (λ y. via_back y.0 y.1)) rib_json (λ e. via_said e.0 e.1)) IsRibRow (λ e. via_legal e.0 e.1) (λ e. via_legal_back e.0 e.1)
