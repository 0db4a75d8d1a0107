-- Worked examples: chip rows and capacities.
use Rattle.std.proofs.Common.{◌≡◌, ℕ, ◌+◌, ◌*◌, ◌-◌, true, false, Some, List, [], ◌∷◌, ◌++◌, map, length, refl}
use Rattle.net_types.specs.declared.client.Client.TheVariants.{Ebgp}
use Rattle.net_types.specs.declared.ip.Ip.{Ip}
use Rattle.net_types.specs.declared.table.HopTarget.TheVariants as target
use Rattle.net_types.specs.declared.table.HostAct.TheVariants as act
use Rattle.net_types.specs.declared.table.HostKey.{HostKey}
use Rattle.net_types.specs.declared.table.HostRow.{HostRow}
use Rattle.net_types.specs.declared.table.RouteKey.{RouteKey}
use Rattle.net_types.specs.declared.table.Table.TheVariants.{Group}
use Rattle.net_types.specs.Cidr.{Cidr}
use Rattle.net_types.specs.Rows.{Rows}
use Rattle.switch_model.specs.declared.act.Act.{Act}
use Rattle.switch_model.specs.declared.act.Act.TheVariants.{VlanAdd, PortAdd, PortUp, PortDown, IntfAdd, AddrAdd, NeighborSet, NeighborPending, RouteSet}
use Rattle.switch_model.specs.declared.via.Via.TheVariants.{Hops}
use Rattle.net_types.specs.Capacity.{over, Fits}
use Rattle.switch_model.specs.PlainState.{PlainState, empty}
use Rattle.switch_model.specs.Rows.{rows}
use Rattle.switch_model.specs.Sound.{IsSound}
use Rattle.switch_model.specs.Totals.{totals}
use Rattle.switch_model.proofs.Notation.{dotted, ten, link_local, slash, eight, mac, via_ip, via_intf, host, after, state}
use Rattle.switch_model.proofs.ExamplesAddresses.{two_interfaces}
use Rattle.switch_model.proofs.ExamplesRoutes.{one_interface, two_vrfs, documentation, by_link_local, wide, looped}

rows_of_nothing : rows empty ≡ record { l2 = []; host = []; group = []; route = [] }
rows_of_nothing = refl

abbrev key : Cidr → RouteKey
key prefix = record { vrf = 0; prefix = prefix }

abbrev trapped : HostRow
trapped = record { vrf = 0; act = act.Trap }

abbrev two_hops : ℕ → ℕ → Act
two_hops a b = RouteSet 0 (eight 20) Ebgp (Hops (via_ip (ten a) ∷ via_ip (ten b) ∷ []))

-- a route over two hops, of which nothing is known: two hosts, a group of both, and the routes
rows_of_a_moved_route : rows (after one_interface (two_hops 2 3 ∷ two_hops 3 4 ∷ [])) ≡ record {
  l2 = [];
  host = (host (ten 3) 1, trapped) ∷ (host (ten 4) 1, trapped) ∷ [];
  group = (host (ten 3) 1 ∷ host (ten 4) 1 ∷ [], false ∷ false ∷ []) ∷ [];
  route = (key (slash (ten 0) 24), target.ToCpu) ∷ (key (eight 20), target.Group (host (ten 3) 1 ∷ host (ten 4) 1 ∷ [])) ∷ [];
}
rows_of_a_moved_route = refl

-- of two tables over their capacity the first one is named
first_table_over : over (rows (after one_interface (two_hops 2 3 ∷ []))) (record { l2 = 0; host = 8; group = 0; route = 1 }) ≡ Some Group
first_table_over = refl

exactly_at_capacity : Fits (rows (after one_interface (two_hops 2 3 ∷ []))) (record { l2 = 0; host = 2; group = 1; route = 2 })
exactly_at_capacity = refl

abbrev counts : Rows → List ℕ
counts r = length r.l2 ∷ length r.host ∷ length r.group ∷ length r.route ∷ []

-- two routes over the same hops share their group, and a group stands before its extensions
groups_of_four_routes : map (λ e. e.0) (rows (after one_interface (RouteSet 0 (eight 21) Ebgp (Hops (via_ip (ten 4) ∷ via_ip (ten 3) ∷ via_ip (ten 2) ∷ [])) ∷ two_hops 3 2 ∷ RouteSet 0 (eight 22) Ebgp (Hops (via_ip (ten 2) ∷ via_ip (ten 3) ∷ [])) ∷ RouteSet 0 (eight 23) Ebgp (Hops (via_ip (ten 7) ∷ [])) ∷ []))).group
    ≡ (host (ten 2) 1 ∷ host (ten 3) 1 ∷ []) ∷ (host (ten 2) 1 ∷ host (ten 3) 1 ∷ host (ten 4) 1 ∷ []) ∷ []
groups_of_four_routes = refl

-- a hop with its interface and the same without lead to one host
rows_of_one_host_twice : (rows (after one_interface (RouteSet 0 (eight 20) Ebgp (Hops (via_ip (ten 2) ∷ via_intf (ten 2) 1 ∷ [])) ∷ []))).route
    ≡ (key (slash (ten 0) 24), target.ToCpu) ∷ (key (eight 20), target.Host (host (ten 2) 1)) ∷ []
rows_of_one_host_twice = refl

-- routes that lead nowhere have no row
counts_of_a_loop : counts (rows looped) ≡ 0 ∷ 1 ∷ 0 ∷ 3 ∷ []
counts_of_a_loop = refl

-- a link of a rack switch: a VLAN, a port that is up, an interface, its address and the neighbour at the other end
abbrev link : ℕ → List Act
link i = VlanAdd (100 + i) (117 ∷ (48 + i) ∷ [])
    ∷ PortAdd i (100 + i)
    ∷ PortUp i
    ∷ IntfAdd (100 + i) (100 + i) 0 (mac 0 i)
    ∷ AddrAdd (100 + i) (slash (dotted 10 1 1 (2 * i - 2)) 31)
    ∷ NeighborSet (100 + i) (dotted 10 1 1 (2 * i - 1)) (mac 1 i) i
    ∷ []

abbrev other_end : ℕ → Ip
other_end i = dotted 10 1 1 (2 * i - 1)

abbrev uplink : ℕ → HostKey
uplink i = host (other_end i) (100 + i)

abbrev uplinks : List HostKey
uplinks = uplink 1 ∷ uplink 2 ∷ uplink 3 ∷ uplink 4 ∷ []

abbrev rack : PlainState
rack = after (state (link 1 ++ link 2 ++ link 3 ++ link 4)) (RouteSet 0 (slash (dotted 0 0 0 0) 0) Ebgp (Hops (map (λ h. via_ip h.ip) uplinks)) ∷ [])

rack_is_sound : IsSound rack
rack_is_sound = refl

abbrev forwarded : ℕ → HostRow
forwarded i = record { vrf = 0; act = act.Forward (mac 1 i) i true }

abbrev connected : ℕ → Cidr
connected i = slash (dotted 10 1 1 (2 * i - 2)) 31

rows_of_a_rack_switch : rows rack ≡ record {
  l2 = [];
  host = (uplink 1, forwarded 1) ∷ (uplink 2, forwarded 2) ∷ (uplink 3, forwarded 3) ∷ (uplink 4, forwarded 4) ∷ [];
  group = (uplinks, true ∷ true ∷ true ∷ true ∷ []) ∷ [];
  route = (key (slash (dotted 0 0 0 0) 0), target.Group uplinks) ∷ (key (connected 1), target.ToCpu) ∷ (key (connected 2), target.ToCpu) ∷ (key (connected 3), target.ToCpu) ∷ (key (connected 4), target.ToCpu) ∷ [];
}
rows_of_a_rack_switch = refl

-- a port that goes down marks its host and the group's member, and the rows stay
rows_of_a_link_down : rows (after rack (PortDown 2 ∷ [])) ≡ record {
  l2 = [];
  host = (uplink 1, forwarded 1) ∷ (uplink 2, record { vrf = 0; act = act.Forward (mac 1 2) 2 false }) ∷ (uplink 3, forwarded 3) ∷ (uplink 4, forwarded 4) ∷ [];
  group = (uplinks, true ∷ false ∷ true ∷ true ∷ []) ∷ [];
  route = (key (slash (dotted 0 0 0 0) 0), target.Group uplinks) ∷ (key (connected 1), target.ToCpu) ∷ (key (connected 2), target.ToCpu) ∷ (key (connected 3), target.ToCpu) ∷ (key (connected 4), target.ToCpu) ∷ [];
}
rows_of_a_link_down = refl

totals_of_a_link_down : totals (after rack (PortDown 2 ∷ [])) ≡ record { ports = 4; up = 3; vlans = 4; intfs = 4; macs = 0; neighbors = 4; routes = 1; fib = 5 }
totals_of_a_link_down = refl

rows_of_a_link_up_again : rows (after rack (PortDown 2 ∷ PortUp 2 ∷ [])) ≡ rows rack
rows_of_a_link_up_again = refl

abbrev with_neighbor : PlainState
with_neighbor = after one_interface (NeighborPending 1 (ten 9) ∷ [])

host_row_of_a_neighbor : (rows with_neighbor).host ≡ (host (ten 9) 1, trapped) ∷ []
host_row_of_a_neighbor = refl

-- a neighbour whose interface is gone has no host row
host_row_vanishes_with_its_interface : (rows (record with_neighbor { intfs = [] })).host ≡ []
host_row_vanishes_with_its_interface = refl

-- a host has the VRF of its interface; the route of another VRF over that interface has no row
rows_in_another_vrf : rows (after two_vrfs (by_link_local 0 ∷ by_link_local 1 ∷ [])) ≡ record {
  l2 = [];
  host = (host (link_local 1) 3, record { vrf = 1; act = act.Trap }) ∷ [];
  group = [];
  route = (record { vrf = 1; prefix = documentation }, target.Host (host (link_local 1) 3)) ∷ [];
}
rows_in_another_vrf = refl

-- of 65 hosts that a route reaches 64 are its group, beside the groups of the two routes between; each host has a row
counts_of_64_hops : counts (rows (after two_interfaces wide)) ≡ 0 ∷ 65 ∷ 3 ∷ 5 ∷ []
counts_of_64_hops = refl
