-- What rules ask of a state.
use Rattle.std.specs.Prelude.{ℕ, ◌==◌, ◌&&◌, ◌||◌, not, Bool, true, false, is_some, is_none, Option, None, Some, List, [], option_map, find, filter, length}
use Rattle.std.specs.List.{list_any}
use Rattle.std.specs.Ordering.{eq_by_cmp}
use Rattle.keyed.specs.Sets.{delete}
use Rattle.net_types.specs.declared.client.Client.{Client}
use Rattle.net_types.specs.declared.client.Client.TheVariants.{Interface}
use Rattle.net_types.specs.declared.ip.Ip.{Ip}
use Rattle.net_types.specs.Cidr.{Cidr}
use Rattle.net_types.specs.KeyOrder.{ip_cmp}
use Rattle.net_types.specs.Prefix.{overlaps}
use Rattle.net_types.specs.Unicast.{is_unicast}
use Rattle.switch_model.specs.declared.record.IntfRec.{IntfRec}
use Rattle.switch_model.specs.declared.record.NeighborRec.{NeighborRec}
use Rattle.switch_model.specs.declared.record.NeighborRec.TheVariants.{Pending, Reachable}
use Rattle.switch_model.specs.declared.record.PortRec.{PortRec}
use Rattle.switch_model.specs.Addresses.{addr_cmp, same_addr, subnets, is_on}
use Rattle.switch_model.specs.PlainState.{PlainState, vlan_at, port_at, intf_at, mac_at, neighbor_at, route_at}

-- VLANs, ports and interfaces that are there, and such that aren't
abbrev pub has_vlan : PlainState → ℕ → Bool
has_vlan m vlan = is_some (vlan_at m vlan)

abbrev pub no_vlan : PlainState → ℕ → Bool
no_vlan m vlan = is_none (vlan_at m vlan)

abbrev pub has_port : PlainState → ℕ → Bool
has_port m port = is_some (port_at m port)

abbrev pub no_port : PlainState → ℕ → Bool
no_port m port = is_none (port_at m port)

abbrev pub has_intf : PlainState → ℕ → Bool
has_intf m intf = is_some (intf_at m intf)

abbrev pub no_intf : PlainState → ℕ → Bool
no_intf m intf = is_none (intf_at m intf)

-- neighbours, stations and routes that aren't there
abbrev pub no_neighbor : PlainState → ℕ → Ip → Bool
no_neighbor m intf ip = is_none (neighbor_at m (record { intf = intf; ip = ip }))

abbrev pub no_station : PlainState → ℕ → ℕ → Bool
no_station m vlan mac = is_none (mac_at m (record { vlan = vlan; mac = mac }))

abbrev pub no_route : PlainState → ℕ → Cidr → Client → Bool
no_route m vrf prefix client = is_none (route_at m (record { vrf = vrf; prefix = prefix; client = client }))

-- the first interface of a VLAN
abbrev pub intf_of_vlan : PlainState → ℕ → Option ℕ
intf_of_vlan m vlan = option_map (λ e. e.0) (find (λ e. e.1.vlan == vlan) m.intfs)

-- some interface is in the VLAN
abbrev pub vlan_has_intf : PlainState → ℕ → Bool
vlan_has_intf m vlan = is_some (intf_of_vlan m vlan)

-- a port, an interface or a station is in the VLAN
abbrev pub vlan_used : PlainState → ℕ → Bool
vlan_used m vlan = list_any (λ e. e.1.vlan == vlan) m.ports || list_any (λ e. e.1.vlan == vlan) m.intfs || list_any (λ e. e.0.vlan == vlan) m.macs

-- a reachable neighbour is behind the port
abbrev pub is_behind : ℕ → NeighborRec → Bool
is_behind port Pending = false
is_behind port (Reachable mac its_port) = its_port == port

-- a station or a reachable neighbour is behind the port
abbrev pub port_used : PlainState → ℕ → Bool
port_used m port = list_any (λ e. e.1.port == port) m.macs || list_any (λ e. is_behind port e.1) m.neighbors

-- an entry of a neighbour is under the interface
abbrev pub has_neighbor : PlainState → ℕ → Bool
has_neighbor m intf = list_any (λ e. e.0.intf == intf) m.neighbors

-- the interface's addresses, none where it isn't there
abbrev pub addrs_of : Option IntfRec → List Cidr
addrs_of None = []
addrs_of (Some intf) = intf.addrs

-- the addresses of the interface under that number
abbrev pub addrs_at : PlainState → ℕ → List Cidr
addrs_at m intf = addrs_of (intf_at m intf)

-- the interface has an address, or an entry of a neighbour
abbrev pub intf_used : PlainState → ℕ → Bool
intf_used m intf = not (length (addrs_at m intf) == 0) || has_neighbor m intf

-- one of the addresses has this ip
abbrev pub has_ip : List Cidr → Cidr → Bool
has_ip addrs addr = list_any (λ a. eq_by_cmp ip_cmp a.ip addr.ip) addrs

-- one of the addresses has this ip with this length
abbrev pub has_addr : List Cidr → Cidr → Bool
has_addr addrs addr = list_any (same_addr addr) addrs

-- the entry is another interface's than this one, and that is in the VRF
abbrev pub is_other : ℕ → ℕ → ℕ × IntfRec → Bool
is_other intf vrf e = not (e.0 == intf) && (e.1.vrf == vrf)

-- the other interfaces of the VRF that this interface has: none where it isn't there
abbrev pub others_of : PlainState → ℕ → Option IntfRec → List (ℕ × IntfRec)
others_of m intf None = []
others_of m intf (Some own) = filter (is_other intf own.vrf) m.intfs

abbrev pub others_in_vrf : PlainState → ℕ → List (ℕ × IntfRec)
others_in_vrf m intf = others_of m intf (intf_at m intf)

-- the prefix overlaps a subnet of another interface of the interface's VRF
abbrev pub overlaps_other : PlainState → ℕ → Cidr → Bool
overlaps_other m intf prefix = list_any (λ e. list_any (overlaps prefix) (subnets e.1.addrs)) (others_in_vrf m intf)

-- without the address of that ip some neighbour of the interface isn't on it
abbrev pub orphans : PlainState → ℕ → Cidr → Bool
orphans m intf addr = list_any (λ e. (e.0.intf == intf) && not (is_on (delete addr_cmp addr (addrs_at m intf)) e.0.ip)) m.neighbors

-- the port is there and in that VLAN
abbrev pub is_in_vlan : ℕ → Option PortRec → Bool
is_in_vlan vlan None = false
is_in_vlan vlan (Some port) = port.vlan == vlan

-- the port is there and in the VLAN of the interface, which is there too
abbrev pub is_in_vlan_of : Option IntfRec → Option PortRec → Bool
is_in_vlan_of None port = false
is_in_vlan_of (Some intf) port = is_in_vlan intf.vlan port

-- a MAC that names no one station
abbrev pub is_bad_mac : ℕ → Bool
is_bad_mac mac = not (is_unicast mac)

-- the client is the switch itself
abbrev pub is_interface : Client → Bool
is_interface Interface = true
is_interface _ = false
