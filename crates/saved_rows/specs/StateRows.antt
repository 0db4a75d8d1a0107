-- The rows of the state's lists, as a saved text has them.
use Rattle.std.specs.Prelude.{◌≡◌, ◌⊎◌, ℕ, true, Bool, List, codes, Option, option_map}
use Rattle.std.proofs.Common.{inl, inr}
use Rattle.std.specs.Ordering.{nat_cmp}
use Rattle.std.specs.List.{AllByRecursion}
use Rattle.std.specs.declared.cmp.Ordering.{Ordering}
use Rattle.serde_json.specs.Data.{Data, boolean, string}
use Rattle.serde_json.specs.Find.{as_bool}
use Rattle.net_types.specs.declared.client.Client.{Client}
use Rattle.net_types.specs.declared.hop.Hop.{Hop}
use Rattle.net_types.specs.declared.ip.Ip.{Ip}
use Rattle.net_types.specs.declared.table.L2Key.{L2Key}
use Rattle.net_types.specs.Cidr.{Cidr}
use Rattle.net_types.specs.KeyOrder.{hop_cmp}
use Rattle.net_types.specs.Names.{is_vlan_name}
use Rattle.switch_model.specs.declared.key.NeighborKey.{NeighborKey}
use Rattle.switch_model.specs.declared.key.RibKey.{RibKey}
use Rattle.switch_model.specs.declared.record.IntfRec.{IntfRec}
use Rattle.switch_model.specs.declared.record.MacRec.{MacRec}
use Rattle.switch_model.specs.declared.record.NeighborRec.{NeighborRec}
use Rattle.switch_model.specs.declared.record.NeighborRec.TheVariants.{Pending, Reachable}
use Rattle.switch_model.specs.declared.record.PortRec.{PortRec}
use Rattle.switch_model.specs.declared.record.RouteRec.{RouteRec}
use Rattle.switch_model.specs.declared.record.RouteRec.TheVariants.{Hops, ToCpu, Discard}
use Rattle.switch_model.specs.declared.record.VlanRec.{VlanRec}
use Rattle.switch_model.specs.declared.via.Via.{Via}
use Rattle.switch_model.specs.declared.via.Via.TheVariants as given
use Rattle.switch_model.specs.Addresses.{addr_cmp}
use Rattle.json_form.specs.Arrays.{either_of, pair_json, pair_of, quad_json, quad_of, quint_json, quint_of, triple_json, triple_of, word_of}
use Rattle.json_form.specs.Lists.{Ascends, rows_json, rows_of}
use Rattle.saved_rows.specs.Values.{IsAddrText, IsClient, IsHopText, IsIntf, IsIpText, IsMacText, IsPort, IsPrefixText, IsVlan, IsVrf, addr_in, addr_json, client_json, client_of, hop_in, hop_json, intf_number_of, ip_in, ip_json, mac_in, mac_json, name_of, number_json, port_number_of, prefix_in, prefix_json, vlan_number_of, vrf_of, word_json}

-- `[vlan, "VNAME"]`
abbrev pub vlan_json : ℕ × VlanRec → Data
vlan_json e = pair_json number_json string (e.0, e.1.name)

abbrev pub IsVlanRow : ℕ × VlanRec → Type 0
IsVlanRow e = IsVlan e.0 × (is_vlan_name e.1.name ≡ true)

-- `[port, vlan, up]`
abbrev pub port_json : ℕ × PortRec → Data
port_json e = triple_json number_json number_json boolean (e.0, e.1.vlan, e.1.up)

abbrev pub IsPortRow : ℕ × PortRec → Type 0
IsPortRow e = IsPort e.0 × IsVlan e.1.vlan × Unit {0}

-- `[intf, vlan, vrf, "MAC", ["ADDR", ..]]`
abbrev pub intf_json : ℕ × IntfRec → Data
intf_json e = quint_json number_json number_json number_json mac_json (rows_json addr_json) (e.0, e.1.vlan, e.1.vrf, e.1.mac, e.1.addrs)

-- the addresses ascend by ip
abbrev pub IsIntfRow : ℕ × IntfRec → Type 0
IsIntfRow e = IsIntf e.0 × IsVlan e.1.vlan × IsVrf e.1.vrf × IsMacText e.1.mac × (Ascends addr_cmp e.1.addrs × AllByRecursion IsAddrText e.1.addrs)

-- `[vlan, "MAC", port]`
abbrev pub station_json : L2Key × MacRec → Data
station_json e = triple_json number_json mac_json number_json (e.0.vlan, e.0.mac, e.1.port)

abbrev pub IsStationRow : L2Key × MacRec → Type 0
IsStationRow e = IsVlan e.0.vlan × IsMacText e.0.mac × IsPort e.1.port

-- `[intf, "IP"]` of one that is pending, `[intf, "IP", "MAC", port]` of one that is reachable
abbrev pub side_json : NeighborKey → NeighborRec → Data
side_json key Pending = pair_json number_json ip_json (key.intf, key.ip)
side_json key (Reachable mac port) = quad_json number_json ip_json mac_json number_json (key.intf, key.ip, mac, port)

abbrev pub neighbor_json : NeighborKey × NeighborRec → Data
neighbor_json e = side_json e.0 e.1

abbrev pub IsSide : NeighborKey → NeighborRec → Type 0
IsSide key Pending = IsIntf key.intf × IsIpText key.ip
IsSide key (Reachable mac port) = IsIntf key.intf × IsIpText key.ip × IsMacText mac × IsPort port

abbrev pub IsNeighborRow : NeighborKey × NeighborRec → Type 0
IsNeighborRow e = IsSide e.0 e.1

-- `[vrf, "PREFIX", client number, "via", ["HOP", ..]]`, or with `"cpu"` or `"drop"` as the last item
abbrev pub word_route_json : List ℕ → RibKey → Data
word_route_json word key = quad_json number_json prefix_json client_json (word_json word) (key.vrf, key.prefix, key.client, tt)

abbrev pub via_json : RibKey → RouteRec → Data
via_json key (Hops hops) = quint_json number_json prefix_json client_json (word_json (codes "via")) (rows_json hop_json) (key.vrf, key.prefix, key.client, tt, hops)
via_json key ToCpu = word_route_json (codes "cpu") key
via_json key Discard = word_route_json (codes "drop") key

abbrev pub rib_json : RibKey × RouteRec → Data
rib_json e = via_json e.0 e.1

abbrev pub IsKey : RibKey → Type 0
IsKey key = IsVrf key.vrf × IsPrefixText key.prefix × IsClient key.client

-- the hops ascend
abbrev pub AreHops : RouteRec → Type 0
AreHops (Hops hops) = Ascends hop_cmp hops × AllByRecursion IsHopText hops
AreHops ToCpu = Unit {0}
AreHops Discard = Unit {0}

abbrev pub IsRibRow : RibKey × RouteRec → Type 0
IsRibRow e = IsKey e.0 × AreHops e.1

-- by the number that stands first
abbrev pub by_number : {A : Type 0} → ℕ × A → ℕ × A → Ordering
by_number x y = nat_cmp x.0 y.0

-- by an order of the keys
abbrev pub by_key : {K A : Type 0} → (K → K → Ordering) → K × A → K × A → Ordering
by_key cmp x y = cmp x.0 y.0

-- ---- read

abbrev pub vlan_row : ℕ × List ℕ → ℕ × VlanRec
vlan_row p = (p.0, record { name = p.1 })

abbrev pub vlan_of : Data → Option (ℕ × VlanRec)
vlan_of d = option_map vlan_row (pair_of vlan_number_of name_of d)

abbrev pub port_row : ℕ × ℕ × Bool → ℕ × PortRec
port_row p = (p.0, record { vlan = p.1; up = p.2 })

abbrev pub port_of : Data → Option (ℕ × PortRec)
port_of d = option_map port_row (triple_of port_number_of vlan_number_of as_bool d)

abbrev pub addrs_of : Data → Option (List Cidr)
addrs_of = rows_of addr_in addr_cmp

abbrev pub intf_row : ℕ × ℕ × ℕ × ℕ × List Cidr → ℕ × IntfRec
intf_row p = (p.0, record { vlan = p.1; vrf = p.2; mac = p.3; addrs = p.4 })

abbrev pub intf_of : Data → Option (ℕ × IntfRec)
intf_of d = option_map intf_row (quint_of intf_number_of vlan_number_of vrf_of mac_in addrs_of d)

abbrev pub station_row : ℕ × ℕ × ℕ → L2Key × MacRec
station_row p = (record { vlan = p.0; mac = p.1 }, record { port = p.2 })

abbrev pub station_of : Data → Option (L2Key × MacRec)
station_of d = option_map station_row (triple_of vlan_number_of mac_in port_number_of d)

abbrev pub Sides : Type 0
Sides = (ℕ × Ip) ⊎ (ℕ × Ip × ℕ × ℕ)

abbrev pub pending : ℕ × Ip → NeighborKey × NeighborRec
pending p = (record { intf = p.0; ip = p.1 }, Pending)

abbrev pub reachable : ℕ × Ip × ℕ × ℕ → NeighborKey × NeighborRec
reachable p = (record { intf = p.0; ip = p.1 }, Reachable p.2 p.3)

abbrev pub neighbor_row : Sides → NeighborKey × NeighborRec
neighbor_row (inl p) = pending p
neighbor_row (inr p) = reachable p

abbrev pub pending_of : Data → Option (ℕ × Ip)
pending_of = pair_of intf_number_of ip_in

abbrev pub reachable_of : Data → Option (ℕ × Ip × ℕ × ℕ)
reachable_of = quad_of intf_number_of ip_in mac_in port_number_of

abbrev pub neighbor_of : Data → Option (NeighborKey × NeighborRec)
neighbor_of d = option_map neighbor_row (either_of pending_of reachable_of d)

abbrev pub hops_of : Data → Option (List Hop)
hops_of = rows_of hop_in hop_cmp

abbrev pub Vias : Type 0
Vias = (ℕ × Cidr × Client × Unit {0} × List Hop) ⊎ ((ℕ × Cidr × Client × Unit {0}) ⊎ (ℕ × Cidr × Client × Unit {0}))

abbrev pub rib_key : ℕ → Cidr → Client → RibKey
rib_key vrf prefix client = record { vrf = vrf; prefix = prefix; client = client }

abbrev pub to_hops : ℕ × Cidr × Client × Unit {0} × List Hop → RibKey × RouteRec
to_hops p = (rib_key p.0 p.1 p.2, Hops p.4)

abbrev pub key_of : ℕ × Cidr × Client × Unit {0} → RibKey
key_of p = rib_key p.0 p.1 p.2

abbrev pub rib_row : Vias → RibKey × RouteRec
rib_row (inl p) = to_hops p
rib_row (inr (inl p)) = (key_of p, ToCpu)
rib_row (inr (inr p)) = (key_of p, Discard)

-- what is kept of a route as it is given, with hops that ascend
abbrev pub rec_of : Via → RouteRec
rec_of (given.Hops hops) = Hops hops
rec_of given.ToCpu = ToCpu
rec_of given.Discard = Discard

abbrev pub via_of : Data → Option (ℕ × Cidr × Client × Unit {0} × List Hop)
via_of = quint_of vrf_of prefix_in client_of (word_of (codes "via")) hops_of

abbrev pub word_route_of : List ℕ → Data → Option (ℕ × Cidr × Client × Unit {0})
word_route_of word = quad_of vrf_of prefix_in client_of (word_of word)

abbrev pub rib_of : Data → Option (RibKey × RouteRec)
rib_of d = option_map rib_row (either_of via_of (either_of (word_route_of (codes "cpu")) (word_route_of (codes "drop"))) d)
