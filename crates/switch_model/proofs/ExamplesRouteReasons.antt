-- Worked examples: each reason of each update of routes.
use Rattle.std.proofs.Common.{◌≡◌, ℕ, None, Some, List, [], ◌∷◌, map, refl}
use Rattle.net_types.specs.declared.client.Client.{Client}
use Rattle.net_types.specs.declared.client.Client.TheVariants.{Interface, Static, Ebgp}
use Rattle.net_types.specs.declared.hop.Hop.{Hop}
use Rattle.net_types.specs.Cidr.{Cidr}
use Rattle.switch_model.specs.declared.act.Act.{Act}
use Rattle.switch_model.specs.declared.act.Act.TheVariants.{RouteSet, RouteDel, ClientSync}
use Rattle.switch_model.specs.declared.verdict.Reason.TheVariants.{InterfaceClient, FamilyMix, NoHops, TooManyHops, DoubleHop, DoublePrefix, NoRoute}
use Rattle.switch_model.specs.declared.via.Via.{Via}
use Rattle.switch_model.specs.declared.via.Via.TheVariants.{Hops, ToCpu, Discard}
use Rattle.switch_model.proofs.Notation.{ten, link_local, eight, via_ip, via_intf, numbers, after, why, IsFirst}
use Rattle.switch_model.proofs.ExamplesPortReasons.{small}

-- so many hops, all one and the same
abbrev copies : ℕ → List Hop
copies count = map (λ d. via_ip (ten 8)) (numbers 1 count)

-- so many hops, all different
abbrev many : ℕ → Via
many count = Hops (map (λ d. via_ip (ten d)) (numbers 10 count))

abbrev one_hop : Via
one_hop = many 1

-- a hop of IPv6
abbrev other_family : Via
other_family = Hops (via_intf (link_local 9) 1 ∷ [])

-- a client's new list of its routes in VRF 0
abbrev sync : Client → List (Cidr × Via) → Act
sync client routes = ClientSync 0 client routes

-- route set
route_set_over_a_hop : why small (RouteSet 0 (eight 20) Ebgp one_hop) ≡ None
route_set_over_a_hop = refl

route_set_to_the_cpu : why small (RouteSet 0 (eight 20) Static ToCpu) ≡ None
route_set_to_the_cpu = refl

route_set_of_the_switch_itself : why small (RouteSet 0 (eight 20) Interface one_hop) ≡ Some InterfaceClient
route_set_of_the_switch_itself = refl

route_set_over_a_hop_of_another_family : why small (RouteSet 0 (eight 20) Ebgp other_family) ≡ Some FamilyMix
route_set_over_a_hop_of_another_family = refl

route_set_over_no_hop : why small (RouteSet 0 (eight 20) Ebgp (Hops [])) ≡ Some NoHops
route_set_over_no_hop = refl

route_set_over_33_hops : why small (RouteSet 0 (eight 20) Ebgp (many 33)) ≡ Some TooManyHops
route_set_over_33_hops = refl

route_set_over_a_hop_twice : why small (RouteSet 0 (eight 20) Ebgp (Hops (copies 2))) ≡ Some DoubleHop
route_set_over_a_hop_twice = refl

route_set_over_33_times_a_hop : IsFirst small (RouteSet 0 (eight 20) Ebgp (Hops (copies 33))) TooManyHops (DoubleHop ∷ [])
route_set_over_33_times_a_hop = (refl, refl)

route_set_over_no_hop_of_the_switch_itself : IsFirst small (RouteSet 0 (eight 20) Interface (Hops [])) InterfaceClient (NoHops ∷ [])
route_set_over_no_hop_of_the_switch_itself = (refl, refl)

route_set_twice_over_a_hop_of_another_family : IsFirst small (RouteSet 0 (eight 20) Ebgp (Hops (via_ip (link_local 2) ∷ via_ip (link_local 2) ∷ []))) FamilyMix (DoubleHop ∷ [])
route_set_twice_over_a_hop_of_another_family = (refl, refl)

-- route del
route_del_of_a_route : why small (RouteDel 0 (eight 20) Static) ≡ None
route_del_of_a_route = refl

-- no updates build this state, in which the switch itself has a route
route_del_of_the_switch_itself : why (after small (RouteSet 0 (eight 20) Interface Discard ∷ [])) (RouteDel 0 (eight 20) Interface) ≡ Some InterfaceClient
route_del_of_the_switch_itself = refl

route_del_of_another_clients_route : why small (RouteDel 0 (eight 20) Ebgp) ≡ Some NoRoute
route_del_of_another_clients_route = refl

route_del_in_another_vrf : why small (RouteDel 1 (eight 20) Static) ≡ Some NoRoute
route_del_in_another_vrf = refl

route_del_of_no_route_of_the_switch_itself : IsFirst small (RouteDel 0 (eight 20) Interface) InterfaceClient (NoRoute ∷ [])
route_del_of_no_route_of_the_switch_itself = (refl, refl)

-- client sync
client_sync_of_two_routes : why small (sync Ebgp ((eight 20, one_hop) ∷ (eight 21, ToCpu) ∷ [])) ≡ None
client_sync_of_two_routes = refl

client_sync_of_no_routes : why small (sync Ebgp []) ≡ None
client_sync_of_no_routes = refl

client_sync_of_the_switch_itself : why small (sync Interface []) ≡ Some InterfaceClient
client_sync_of_the_switch_itself = refl

client_sync_over_a_hop_of_another_family : why small (sync Ebgp ((eight 20, one_hop) ∷ (eight 21, other_family) ∷ [])) ≡ Some FamilyMix
client_sync_over_a_hop_of_another_family = refl

client_sync_over_no_hop : why small (sync Ebgp ((eight 20, one_hop) ∷ (eight 21, Hops []) ∷ [])) ≡ Some NoHops
client_sync_over_no_hop = refl

client_sync_over_33_hops : why small (sync Ebgp ((eight 20, one_hop) ∷ (eight 21, many 33) ∷ [])) ≡ Some TooManyHops
client_sync_over_33_hops = refl

client_sync_over_a_hop_twice : why small (sync Ebgp ((eight 20, one_hop) ∷ (eight 21, Hops (copies 2)) ∷ [])) ≡ Some DoubleHop
client_sync_over_a_hop_twice = refl

client_sync_of_a_prefix_twice : why small (sync Ebgp ((eight 20, one_hop) ∷ (eight 21, ToCpu) ∷ (eight 20, Discard) ∷ [])) ≡ Some DoublePrefix
client_sync_of_a_prefix_twice = refl

-- of two reasons the first one is given, whichever item it comes from
client_sync_over_33_hops_and_over_no_hop : IsFirst small (sync Ebgp ((eight 20, many 33) ∷ (eight 21, Hops []) ∷ [])) NoHops (TooManyHops ∷ [])
client_sync_over_33_hops_and_over_no_hop = (refl, refl)

client_sync_of_a_prefix_twice_over_a_hop_twice : IsFirst small (sync Ebgp ((eight 20, one_hop) ∷ (eight 20, Hops (copies 2)) ∷ [])) DoubleHop (DoublePrefix ∷ [])
client_sync_of_a_prefix_twice_over_a_hop_twice = (refl, refl)

client_sync_over_no_hop_of_the_switch_itself : IsFirst small (sync Interface ((eight 20, Hops []) ∷ [])) InterfaceClient (NoHops ∷ [])
client_sync_over_no_hop_of_the_switch_itself = (refl, refl)

client_sync_of_a_prefix_twice_over_a_hop_of_another_family : IsFirst small (sync Ebgp ((eight 20, other_family) ∷ (eight 20, one_hop) ∷ [])) FamilyMix (DoublePrefix ∷ [])
client_sync_of_a_prefix_twice_over_a_hop_of_another_family = (refl, refl)

client_sync_over_33_times_a_hop : IsFirst small (sync Ebgp ((eight 20, Hops (copies 33)) ∷ [])) TooManyHops (DoubleHop ∷ [])
client_sync_over_33_times_a_hop = (refl, refl)
