-- Worked examples: routes, their reasons, and what becomes of packets.
use Rattle.std.proofs.Common.{◌≡◌, ℕ, ◌*◌, ◌^◌, Option, None, Some, List, [], ◌∷◌, map, option_map, refl, codes}
use Rattle.net_types.specs.declared.client.Client.{Client}
use Rattle.net_types.specs.declared.client.Client.TheVariants.{Interface, Static, Ebgp, Ibgp}
use Rattle.net_types.specs.declared.hop.Hop.{Hop}
use Rattle.net_types.specs.declared.ip.Ip.TheVariants.{V6}
use Rattle.net_types.specs.Cidr.{Cidr}
use Rattle.switch_model.specs.declared.act.Act.{Act}
use Rattle.switch_model.specs.declared.act.Act.TheVariants.{VlanAdd, IntfAdd, AddrAdd, RouteSet, RouteDel, ClientSync}
use Rattle.switch_model.specs.declared.key.RibKey.{RibKey}
use Rattle.switch_model.specs.declared.record.FibEntry.{FibEntry}
use Rattle.switch_model.specs.declared.record.FibEntry.TheVariants as fib
use Rattle.switch_model.specs.declared.record.RouteRec.TheVariants as kept
use Rattle.switch_model.specs.declared.verdict.Reason.TheVariants.{InterfaceClient, FamilyMix, NoHops, TooManyHops, DoubleHop, DoublePrefix}
use Rattle.switch_model.specs.declared.via.Via.{Via}
use Rattle.switch_model.specs.declared.via.Via.TheVariants.{Hops, ToCpu, Discard}
use Rattle.switch_model.specs.BestRoute.{learnt}
use Rattle.switch_model.specs.Fib.{fib, fibs}
use Rattle.switch_model.specs.LongestMatch.{longest_match}
use Rattle.switch_model.specs.PlainState.{PlainState, rib}
use Rattle.switch_model.specs.Sound.{IsSound}
use Rattle.switch_model.proofs.Notation.{dotted, ten, link_local, slash, eight, mac, via_ip, via_intf, numbers, after, state, why}
use Rattle.switch_model.proofs.ExamplesAddresses.{two_interfaces}

-- hops `10.0.0.from` and on, so many of them
abbrev pub hops_from : ℕ → ℕ → Via
hops_from from count = Hops (map (λ d. via_ip (ten d)) (numbers from count))

abbrev entry : PlainState → Cidr → Option FibEntry
entry m prefix = fib (rib m) 0 prefix

abbrev ends : List Act
ends = RouteSet 0 (eight 20) Ebgp ToCpu ∷ RouteSet 0 (eight 21) Ebgp Discard ∷ []

abbrev to_both_ends : List Hop
to_both_ends = via_ip (dotted 20 0 0 1) ∷ via_ip (dotted 21 0 0 1) ∷ []

-- of two ends the CPU goes before drop
cpu_before_drop : entry (after (after two_interfaces ends) (RouteSet 0 (eight 30) Ebgp (Hops to_both_ends) ∷ [])) (eight 30) ≡ Some fib.ToCpu
cpu_before_drop = refl

-- and a direct hop before both
direct_before_ends : entry (after (after two_interfaces ends) (RouteSet 0 (eight 30) Ebgp (Hops (via_ip (ten 2) ∷ to_both_ends)) ∷ [])) (eight 30) ≡ Some (fib.Forward (via_intf (ten 2) 1 ∷ []))
direct_before_ends = refl

route_of_the_switch_itself : why two_interfaces (RouteSet 0 (eight 20) Interface Discard) ≡ Some InterfaceClient
route_of_the_switch_itself = refl

hop_of_another_family : why two_interfaces (RouteSet 0 (eight 10) Ebgp (Hops (via_intf (link_local 1) 1 ∷ []))) ≡ Some FamilyMix
hop_of_another_family = refl

route_without_hops : why two_interfaces (RouteSet 0 (eight 20) Ebgp (Hops [])) ≡ Some NoHops
route_without_hops = refl

route_of_33_hops : why two_interfaces (RouteSet 0 (eight 20) Ebgp (hops_from 10 33)) ≡ Some TooManyHops
route_of_33_hops = refl

route_of_32_hops : why two_interfaces (RouteSet 0 (eight 20) Ebgp (hops_from 10 32)) ≡ None
route_of_32_hops = refl

hop_given_twice : why two_interfaces (RouteSet 0 (eight 20) Ebgp (Hops (via_ip (ten 2) ∷ via_ip (ten 2) ∷ []))) ≡ Some DoubleHop
hop_given_twice = refl

-- a hop with its interface and the same without are two
hop_with_and_without_interface : why two_interfaces (RouteSet 0 (eight 20) Ebgp (Hops (via_ip (ten 2) ∷ via_intf (ten 2) 1 ∷ []))) ≡ None
hop_with_and_without_interface = refl

-- three routes with 65 hops between them, and one over all three
abbrev pub wide : List Act
wide = RouteSet 0 (eight 20) Ebgp (hops_from 10 32) ∷ RouteSet 0 (eight 21) Ebgp (hops_from 42 32) ∷ RouteSet 0 (eight 22) Ebgp (hops_from 74 1)
    ∷ RouteSet 0 (eight 30) Ebgp (Hops (via_ip (dotted 20 0 0 1) ∷ via_ip (dotted 21 0 0 1) ∷ via_ip (dotted 22 0 0 1) ∷ [])) ∷ []

first_64_hops : entry (after two_interfaces wide) (eight 30) ≡ Some (fib.Forward (map (λ d. via_intf (ten d) 1) (numbers 10 64)))
first_64_hops = refl

-- one interface, which has `10.0.0.1/24`
abbrev pub one_interface : PlainState
one_interface = state (VlanAdd 10 (codes "web") ∷ IntfAdd 1 10 0 (mac 1 1) ∷ AddrAdd 1 (slash (ten 1) 24) ∷ [])

abbrev two_clients : PlainState
two_clients = after one_interface (RouteSet 0 (eight 20) Ebgp (hops_from 2 1) ∷ RouteSet 0 (eight 20) Ibgp (hops_from 3 1) ∷ [])

-- the route set last isn't best, since its distance is greater
least_distance : entry two_clients (eight 20) ≡ Some (fib.Forward (via_intf (ten 2) 1 ∷ []))
least_distance = refl

next_distance : entry (after two_clients (RouteDel 0 (eight 20) Ebgp ∷ [])) (eight 20) ≡ Some (fib.Forward (via_intf (ten 3) 1 ∷ []))
next_distance = refl

-- a route by way of the default route
abbrev by_default : PlainState
by_default = after one_interface (RouteSet 0 (slash (dotted 0 0 0 0) 0) Ebgp (hops_from 2 1) ∷ RouteSet 0 (eight 20) Ebgp (Hops (via_ip (dotted 30 0 0 1) ∷ [])) ∷ [])

hop_by_the_default_route : entry by_default (eight 20) ≡ Some (fib.Forward (via_intf (ten 2) 1 ∷ []))
hop_by_the_default_route = refl

-- two routes that lead to each other
abbrev pub looped : PlainState
looped = after by_default (RouteSet 0 (eight 40) Ebgp (Hops (via_ip (dotted 50 0 0 1) ∷ [])) ∷ RouteSet 0 (eight 50) Ebgp (Hops (via_ip (dotted 40 0 0 1) ∷ [])) ∷ [])

loop_gives_nothing : entry looped (eight 40) ≡ None
loop_gives_nothing = refl

loop_and_a_way_out : entry (after looped (RouteSet 0 (eight 50) Ebgp (Hops (via_ip (ten 7) ∷ via_ip (dotted 40 0 0 1) ∷ [])) ∷ [])) (eight 40) ≡ Some (fib.Forward (via_intf (ten 7) 1 ∷ []))
loop_and_a_way_out = refl

-- of two prefixes that contain the ip the longer one is matched, whichever comes first
abbrev nested : PlainState
nested = after one_interface (RouteSet 0 (eight 20) Ebgp Discard ∷ RouteSet 0 (slash (dotted 20 1 0 0) 16) Ebgp ToCpu ∷ [])

longest_of_two : option_map (λ x. x.0) (longest_match (rib nested) 0 (dotted 20 1 2 3)) ≡ Some (slash (dotted 20 1 0 0) 16)
longest_of_two = refl

longest_of_one : option_map (λ x. x.0) (longest_match (rib nested) 0 (dotted 20 2 2 3)) ≡ Some (eight 20)
longest_of_one = refl

no_match : longest_match (rib nested) 0 (dotted 21 0 0 1) ≡ None
no_match = refl

no_match_in_another_vrf : longest_match (rib nested) 1 (dotted 20 1 2 3) ≡ None
no_match_in_another_vrf = refl

-- a subnet of an interface goes before a route to the same prefix
connected_before_routes : entry (after one_interface (RouteSet 0 (slash (ten 0) 24) Static Discard ∷ [])) (slash (ten 0) 24) ≡ Some (fib.Connected 1)
connected_before_routes = refl

-- two interfaces without addresses, the second one in VRF 1
abbrev pub two_vrfs : PlainState
two_vrfs = state (VlanAdd 10 (codes "a") ∷ VlanAdd 11 (codes "b") ∷ IntfAdd 1 10 0 (mac 1 1) ∷ IntfAdd 3 11 1 (mac 1 3) ∷ [])

-- `2001:db8::/32`
abbrev pub documentation : Cidr
documentation = slash (V6 (536939960 * 2 ^ 96)) 32

abbrev pub by_link_local : ℕ → Act
by_link_local vrf = RouteSet vrf documentation Ebgp (Hops (via_intf (link_local 1) 3 ∷ []))

link_local_hop_of_another_vrf : fib (rib (after two_vrfs (by_link_local 0 ∷ []))) 0 documentation ≡ None
link_local_hop_of_another_vrf = refl

link_local_hop_of_the_vrf : fib (rib (after two_vrfs (by_link_local 0 ∷ by_link_local 1 ∷ []))) 1 documentation ≡ Some (fib.Forward (via_intf (link_local 1) 3 ∷ []))
link_local_hop_of_the_vrf = refl

-- a sync takes the client's routes in the VRF away, and leaves those of other clients and VRFs
abbrev routes_before : List Act
routes_before = RouteSet 0 (eight 20) Ebgp Discard ∷ RouteSet 0 (eight 21) Static Discard ∷ RouteSet 1 (eight 22) Ebgp Discard ∷ RouteSet 0 (eight 23) Ebgp Discard ∷ []

abbrev synced : List Act
synced = ClientSync 0 Ebgp ((eight 24, ToCpu) ∷ (eight 23, ToCpu) ∷ []) ∷ []

abbrev rib_key : ℕ → Cidr → Client → RibKey
rib_key vrf prefix client = record { vrf = vrf; prefix = prefix; client = client }

sync_replaces_the_clients_routes : map (λ e. e.0) (after (after one_interface routes_before) synced).routes ≡ rib_key 0 (eight 21) Static ∷ rib_key 0 (eight 23) Ebgp ∷ rib_key 0 (eight 24) Ebgp ∷ rib_key 1 (eight 22) Ebgp ∷ []
sync_replaces_the_clients_routes = refl

sync_changes_a_route : entry (after (after one_interface routes_before) synced) (eight 23) ≡ Some fib.ToCpu
sync_changes_a_route = refl

empty_sync_takes_all_away : fibs (rib (after one_interface (RouteSet 0 (eight 20) Ebgp Discard ∷ ClientSync 0 Ebgp [] ∷ []))) ≡ (record { vrf = 0; prefix = slash (ten 0) 24 }, fib.Connected 1) ∷ []
empty_sync_takes_all_away = refl

prefix_listed_twice : why one_interface (ClientSync 0 Ebgp ((eight 20, Discard) ∷ (eight 20, ToCpu) ∷ [])) ≡ Some DoublePrefix
prefix_listed_twice = refl

-- the match of an ip names the client of its best route
match_of_the_nearest : longest_match (rib two_clients) 0 (dotted 20 1 2 3) ≡ Some (eight 20, learnt Ebgp (kept.Hops (via_ip (ten 2) ∷ [])))
match_of_the_nearest = refl

match_of_a_loop : longest_match (rib looped) 0 (dotted 40 0 0 9) ≡ Some (eight 40, learnt Ebgp (kept.Hops (via_ip (dotted 50 0 0 1) ∷ [])))
match_of_a_loop = refl

-- a hop over an interface that comes later leads nowhere before, and to the host then, whatever addresses the interface has
abbrev over_interface_3 : PlainState
over_interface_3 = after two_interfaces (RouteSet 0 (eight 30) Ebgp (Hops (via_intf (ten 9) 3 ∷ [])) ∷ [])

no_entry_before_the_interface : entry over_interface_3 (eight 30) ≡ None
no_entry_before_the_interface = refl

entry_after_the_interface : entry (after over_interface_3 (VlanAdd 12 (codes "c") ∷ IntfAdd 3 12 0 (mac 0 9) ∷ [])) (eight 30) ≡ Some (fib.Forward (via_intf (ten 9) 3 ∷ []))
entry_after_the_interface = refl

-- a hop whose longest match is connected, though a route has the same prefix
connected_beside_a_route : entry (after one_interface (RouteSet 0 (slash (ten 0) 24) Static Discard ∷ RouteSet 0 (eight 20) Ebgp (hops_from 2 1) ∷ [])) (eight 20) ≡ Some (fib.Forward (via_intf (ten 2) 1 ∷ []))
connected_beside_a_route = refl

-- one subnet in two VRFs
abbrev same_subnet : PlainState
same_subnet = state (VlanAdd 10 (codes "a") ∷ VlanAdd 11 (codes "b") ∷ IntfAdd 5 10 0 (mac 1 1) ∷ IntfAdd 3 11 1 (mac 1 3) ∷ AddrAdd 5 (slash (ten 1) 24) ∷ AddrAdd 3 (slash (ten 1) 24) ∷ [])

same_subnet_is_sound : IsSound same_subnet
same_subnet_is_sound = refl

entries_of_one_subnet_in_two_vrfs : fibs (rib same_subnet) ≡ (record { vrf = 0; prefix = slash (ten 0) 24 }, fib.Connected 5) ∷ (record { vrf = 1; prefix = slash (ten 0) 24 }, fib.Connected 3) ∷ []
entries_of_one_subnet_in_two_vrfs = refl

-- a connected default route takes each ip, and a hop over another VRF's interface leads nowhere
connected_default_route : entry (after same_subnet (AddrAdd 5 (slash (dotted 1 2 3 4) 0) ∷ RouteSet 0 (eight 20) Ebgp (Hops (via_ip (dotted 99 0 0 1) ∷ via_intf (ten 7) 3 ∷ [])) ∷ [])) (eight 20) ≡ Some (fib.Forward (via_intf (dotted 99 0 0 1) 5 ∷ []))
connected_default_route = refl

-- direct hops go by ip, and then by interface
order_of_direct_hops : entry (after two_interfaces (RouteSet 0 (eight 20) Ebgp (Hops (via_intf (ten 9) 2 ∷ via_intf (ten 9) 1 ∷ via_intf (ten 8) 2 ∷ [])) ∷ [])) (eight 20) ≡ Some (fib.Forward (via_intf (ten 8) 2 ∷ via_intf (ten 9) 1 ∷ via_intf (ten 9) 2 ∷ []))
order_of_direct_hops = refl

-- drop behind a loop
drop_behind_a_loop : entry (after one_interface (RouteSet 0 (eight 40) Ebgp (Hops (via_ip (dotted 50 0 0 1) ∷ [])) ∷ RouteSet 0 (eight 50) Ebgp (Hops (via_ip (dotted 40 0 0 1) ∷ via_ip (dotted 60 0 0 1) ∷ [])) ∷ RouteSet 0 (eight 60) Static Discard ∷ [])) (eight 40) ≡ Some fib.Discard
drop_behind_a_loop = refl

-- a hop into the route's own prefix
hop_into_its_own_prefix : entry (after one_interface (RouteSet 0 (eight 40) Ebgp (Hops (via_ip (dotted 40 0 0 1) ∷ [])) ∷ [])) (eight 40) ≡ None
hop_into_its_own_prefix = refl

-- one ip over two interfaces is two hops, and over one interface twice is one too many
one_ip_over_two_interfaces : why two_interfaces (RouteSet 0 (eight 20) Ebgp (Hops (via_intf (ten 2) 1 ∷ via_intf (ten 2) 2 ∷ []))) ≡ None
one_ip_over_two_interfaces = refl

one_ip_twice_over_an_interface : why two_interfaces (RouteSet 0 (eight 20) Ebgp (Hops (via_intf (ten 2) 1 ∷ via_ip (ten 2) ∷ via_intf (ten 2) 1 ∷ []))) ≡ Some DoubleHop
one_ip_twice_over_an_interface = refl
