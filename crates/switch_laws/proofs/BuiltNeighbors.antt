-- Neighbours, stations and routes are built again entry by entry.
use Rattle.std.proofs.Common.{◌≡◌, ◌++◌, ◌==◌, ℕ, true, false, not, List, [], ◌∷◌, Option, Some, map, refl, sym, ap, ◌∙◌, subst}
use Rattle.std.specs.Ordering.{nat_cmp}
use Rattle.std.proofs.lemmas.Bool.{not_from_true}
use Rattle.std.proofs.lemmas.Bool.Decides.{Decides-eqb}
use Rattle.keyed.specs.Keyed.{at}
use Rattle.keyed.specs.SetLaws.{set_of_ascending}
use Rattle.keyed.specs.Cases.{not_none}
use Rattle.keyed.specs.FrontLaws.{IsAbove, above, put_past, at_entry}
use Rattle.keyed.specs.HasLaws.{is_there}
use Rattle.keyed.specs.Tests.{NoneHolds}
use Rattle.net_types.specs.Cidr.{Cidr}
use Rattle.net_types.specs.KeyOrder.{l2_cmp, l2_order, hop_cmp, hop_order}
use Rattle.switch_model.specs.declared.act.Act.TheVariants.{NeighborSet, NeighborPending, MacSet, RouteSet}
use Rattle.switch_model.specs.declared.key.NeighborKey.{NeighborKey}
use Rattle.switch_model.specs.declared.record.IntfRec.{IntfRec}
use Rattle.switch_model.specs.declared.record.NeighborRec.{NeighborRec}
use Rattle.switch_model.specs.declared.record.NeighborRec.TheVariants.{Pending, Reachable}
use Rattle.switch_model.specs.declared.record.PortRec.{PortRec}
use Rattle.switch_model.specs.declared.record.RouteRec.{RouteRec}
use Rattle.switch_model.specs.declared.record.RouteRec.TheVariants as kept
use Rattle.switch_model.specs.Effect.{route_of}
use Rattle.switch_model.specs.Facts.{addrs_of, is_in_vlan, is_in_vlan_of}
use Rattle.switch_model.specs.PlainState.{PlainState}
use Rattle.switch_model.specs.Reason.{hop_reasons}
use Rattle.switch_model.specs.Addresses.{is_on}
use Rattle.switch_model.specs.Sound.{neighbor_act, via_of}
use Rattle.switch_model.specs.StateKeys.{neighbor_cmp, neighbor_order, rib_cmp, rib_order}
use Rattle.switch_laws.proofs.Builds.{Builds, builds_one, builds_as, each_one}
use Rattle.switch_laws.proofs.Stages.{with_front_neighbors, with_front_macs, with_front_routes}
use Rattle.switch_laws.specs.Linked.{IsLinked, IsPortIn, IsNeighbor, IsKept}

-- the test of a port that is in the VLAN
in_vlan_test : (ports : List (ℕ × PortRec)) (port vlan : ℕ) → IsPortIn ports port vlan → not (is_in_vlan vlan (at nat_cmp port ports)) ≡ false
in_vlan_test ports port vlan is = rw is.there (not_from_true (is.value.vlan == vlan) ((Decides-eqb is.value.vlan vlan).1 is.such))

-- and of a neighbour that is on its interface
on_test : (intfs : List (ℕ × IntfRec)) (key : NeighborKey) (i : IntfRec) → at nat_cmp key.intf intfs ≡ Some i → is_on i.addrs key.ip ≡ true → not (is_on (addrs_of (at nat_cmp key.intf intfs)) key.ip) ≡ false
on_test intfs key i there on = subst (λ (o : Option IntfRec). not (is_on (addrs_of o) key.ip) ≡ false) (sym there) (not_from_true (is_on i.addrs key.ip) on)

neighbor_step : (m : PlainState) (f : List (NeighborKey × NeighborRec)) (key : NeighborKey) (v : NeighborRec) → IsAbove neighbor_cmp key f → IsNeighbor m.ports m.intfs key v → Builds (with_front_neighbors m f) (neighbor_act key v ∷ []) (with_front_neighbors m (f ++ ((key, v) ∷ [])))
neighbor_step m f key Pending up is =
    builds_as _ _ _ _ (ap (with_front_neighbors m) (put_past neighbor_cmp neighbor_order key Pending f up))
    (builds_one (with_front_neighbors m f) (NeighborPending key.intf key.ip) (not_none _ is.value is.there, (on_test m.intfs key is.value is.there is.such, tt)))
neighbor_step m f key (Reachable mac port) up is =
    let i : IntfRec = is.0.value in
    let behind : not (is_in_vlan_of (at nat_cmp key.intf m.intfs) (at nat_cmp port m.ports)) ≡ false = subst (λ (o : Option IntfRec). not (is_in_vlan_of o (at nat_cmp port m.ports)) ≡ false) (sym is.0.there) (in_vlan_test m.ports port i.vlan is.0.such.1) in
    builds_as _ _ _ _ (ap (with_front_neighbors m) (put_past neighbor_cmp neighbor_order key (Reachable mac port) f up))
    (builds_one (with_front_neighbors m f) (NeighborSet key.intf key.ip mac port)
    (is_there _ is.0.such.1, (not_none _ i is.0.there, (is.1, (on_test m.intfs key i is.0.there is.0.such.0, (behind, tt))))))

pub neighbors_built : (m : PlainState) → IsLinked m → Builds (with_front_neighbors m []) (map (λ e. neighbor_act e.0 e.1) m.neighbors) (with_front_neighbors m m.neighbors)
neighbors_built m is = each_one m.neighbors (λ e. neighbor_act e.0 e.1) (λ f b. with_front_neighbors m f)
    (λ f e b whole. neighbor_step m f e.0 e.1 (above neighbor_cmp neighbor_order f e b m.neighbors whole is.in_order.neighbors) (is.neighbors.every e.0 e.1 (at_entry neighbor_cmp neighbor_order f e b m.neighbors whole is.in_order.neighbors)))
    [] m.neighbors refl

pub macs_built : (m : PlainState) → IsLinked m → Builds (with_front_macs m []) (map (λ e. MacSet e.0.vlan e.0.mac e.1.port) m.macs) (with_front_macs m m.macs)
macs_built m is = each_one m.macs (λ e. MacSet e.0.vlan e.0.mac e.1.port) (λ f b. with_front_macs m f)
    (λ f e b whole.
    let up = above l2_cmp l2_order f e b m.macs whole is.in_order.macs in
    let on = is.macs.every e.0 e.1 (at_entry l2_cmp l2_order f e b m.macs whole is.in_order.macs) in
    builds_as _ _ _ _ (ap (with_front_macs m) (put_past l2_cmp l2_order e.0 e.1 f up))
    (builds_one (with_front_macs m f) (MacSet e.0.vlan e.0.mac e.1.port) (is_there _ on.0, (is_there _ on.1, (on.2, (in_vlan_test m.ports e.1.port e.0.vlan on.1, tt))))))
    [] m.macs refl

-- a route as it is kept is what its hops make
kept_again : (prefix : Cidr) (v : RouteRec) → IsKept prefix v → route_of (via_of v) ≡ v
kept_again prefix (kept.Hops hops) is = ap kept.Hops (set_of_ascending hop_cmp hop_order.total hops is.0)
kept_again prefix kept.ToCpu is = refl
kept_again prefix kept.Discard is = refl

kept_tests : (prefix : Cidr) (v : RouteRec) → IsKept prefix v → NoneHolds (hop_reasons ((prefix, via_of v) ∷ []))
kept_tests prefix (kept.Hops hops) is = is.1
kept_tests prefix kept.ToCpu is = (refl, (refl, (refl, (refl, tt))))
kept_tests prefix kept.Discard is = (refl, (refl, (refl, (refl, tt))))

pub routes_built : (m : PlainState) → IsLinked m → Builds (with_front_routes m []) (map (λ e. RouteSet e.0.vrf e.0.prefix e.0.client (via_of e.1)) m.routes) (with_front_routes m m.routes)
routes_built m is = each_one m.routes (λ e. RouteSet e.0.vrf e.0.prefix e.0.client (via_of e.1)) (λ f b. with_front_routes m f)
    (λ f e b whole.
    let up = above rib_cmp rib_order f e b m.routes whole is.in_order.routes in
    let ok = is.routes.every e.0 e.1 (at_entry rib_cmp rib_order f e b m.routes whole is.in_order.routes) in
    let last : f ++ ((e.0, route_of (via_of e.1)) ∷ []) ≡ f ++ (e ∷ []) = ap (λ (v : RouteRec). f ++ ((e.0, v) ∷ [])) (kept_again e.0.prefix e.1 ok.1) in
    builds_as _ _ _ _ (ap (with_front_routes m) (put_past rib_cmp rib_order e.0 (route_of (via_of e.1)) f up ∙ last))
    (builds_one (with_front_routes m f) (RouteSet e.0.vrf e.0.prefix e.0.client (via_of e.1)) (ok.0, kept_tests e.0.prefix e.1 ok.1)))
    [] m.routes refl
