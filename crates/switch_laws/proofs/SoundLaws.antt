-- Sound states are those that acts build.
use Rattle.std.proofs.Common.{◌≡◌, ◌↔◌, ◌++◌, List, [], ◌∷◌, Option, None, Some, Ok, ℕ, map, refl, sym, ap, subst}
use Rattle.std.specs.List.{flat_map}
use Rattle.std.proofs.lemmas.List.{append-nil}
use Rattle.keyed.specs.EveryLaws.{every-nil, two-nil}
use Rattle.keyed.specs.Tests.{NoneHolds}
use Rattle.switch_model.specs.declared.act.Act.{Act}
use Rattle.switch_model.specs.declared.act.Act.TheVariants.{VlanAdd, VlanDel, PortAdd, PortDel, PortVlan, PortUp, PortDown, IntfAdd, IntfDel, AddrAdd, AddrDel, NeighborSet, NeighborPending, NeighborDel, MacSet, MacDel, RouteSet, RouteDel, ClientSync}
use Rattle.switch_model.specs.declared.verdict.Reason.{Reason}
use Rattle.switch_model.specs.Effect.{effect}
use Rattle.switch_model.specs.PlainState.{PlainState, empty}
use Rattle.switch_model.specs.Reason.{reasons, reason_of_act}
use Rattle.switch_model.specs.Sound.{port_acts, addr_acts, neighbor_act, via_of, acts_of, IsSound}
use Rattle.switch_model.specs.Built.{built, laid, placed}
use Rattle.std.specs.Ordering.{nat_cmp}
use Rattle.keyed.specs.KeyOrders.{nat_order}
use Rattle.net_types.specs.KeyOrder.{l2_cmp, l2_order}
use Rattle.switch_model.specs.StateKeys.{neighbor_cmp, neighbor_order, rib_cmp, rib_order}
use Rattle.switch_laws.proofs.Builds.{Builds, builds_then, builds_as, first_act, ok_is}
use Rattle.switch_laws.proofs.BuiltIntfs.{intfs_built, addrs_built}
use Rattle.switch_laws.proofs.BuiltNeighbors.{neighbors_built, macs_built, routes_built}
use Rattle.switch_laws.proofs.BuiltPorts.{vlans_built, ports_built}
use Rattle.switch_laws.proofs.KeptIntfs.{intf_add-kept, intf_del-kept, addr_add-kept, addr_del-kept}
use Rattle.switch_laws.proofs.KeptNeighbors.{neighbor_set-kept, neighbor_pending-kept, neighbor_del-kept, mac_set-kept, mac_del-kept}
use Rattle.switch_laws.proofs.KeptPorts.{port_add-kept, port_del-kept, port_vlan-kept, port_up-kept, port_down-kept}
use Rattle.switch_laws.proofs.KeptRoutes.{route_set-kept, route_del-kept, client_sync-kept}
use Rattle.switch_laws.proofs.KeptVlans.{vlan_add-kept, vlan_del-kept}
use Rattle.switch_laws.proofs.Stages.{bare, with_front_vlans, with_front_ports, with_front_intfs, with_front_neighbors, with_front_macs}
use Rattle.switch_laws.proofs.TestLaws.{none_holds}
use Rattle.switch_laws.specs.Linked.{IsLinked, IsPort, IsIntf, AreApart, IsNeighbor, IsStation, IsRoute}

pub linked-empty : IsLinked empty
linked-empty = record {
  in_order = record { vlans = tt; ports = tt; intfs = tt; macs = tt; neighbors = tt; routes = tt };
  ports = every-nil nat_cmp nat_order (IsPort []);
  intfs = every-nil nat_cmp nat_order (IsIntf []);
  intfs_apart = two-nil nat_cmp nat_order AreApart;
  neighbors = every-nil neighbor_cmp neighbor_order (IsNeighbor [] []);
  macs = every-nil l2_cmp l2_order (IsStation [] []);
  routes = every-nil rib_cmp rib_order IsRoute;
}

-- each act that no reason holds against
kept : (m : PlainState) (act : Act) → NoneHolds (reasons m act) → IsLinked m → IsLinked (effect m act)
kept m (VlanAdd vlan name) none is = vlan_add-kept m vlan name none is
kept m (VlanDel vlan) none is = vlan_del-kept m vlan none is
kept m (PortAdd port vlan) none is = port_add-kept m port vlan none is
kept m (PortDel port) none is = port_del-kept m port none is
kept m (PortVlan port vlan) none is = port_vlan-kept m port vlan none is
kept m (PortUp port) none is = port_up-kept m port is
kept m (PortDown port) none is = port_down-kept m port is
kept m (IntfAdd intf vlan vrf mac) none is = intf_add-kept m intf vlan vrf mac none is
kept m (IntfDel intf) none is = intf_del-kept m intf none is
kept m (AddrAdd intf addr) none is = addr_add-kept m intf addr none is
kept m (AddrDel intf addr) none is = addr_del-kept m intf addr none is
kept m (NeighborSet intf ip mac port) none is = neighbor_set-kept m intf ip mac port none is
kept m (NeighborPending intf ip) none is = neighbor_pending-kept m intf ip none is
kept m (NeighborDel intf ip) none is = neighbor_del-kept m intf ip is
kept m (MacSet vlan mac port) none is = mac_set-kept m vlan mac port none is
kept m (MacDel vlan mac) none is = mac_del-kept m vlan mac is
kept m (RouteSet vrf prefix client via) none is = route_set-kept m vrf prefix client via none is
kept m (RouteDel vrf prefix client) none is = route_del-kept m vrf prefix client is
kept m (ClientSync vrf client routes) none is = client_sync-kept m vrf client routes none is

pub linked-kept : (m : PlainState) (act : Act) → reason_of_act m act ≡ None → IsLinked m → IsLinked (effect m act)
linked-kept m act none is = kept m act (none_holds (reasons m act) none) is

-- what acts lead to from a linked state is linked
pub linked-laid : (m n : PlainState) (acts : List (ℕ × Act)) → IsLinked m → laid m acts ≡ Ok n → IsLinked n
linked-laid m n [] is h = subst (λ (s : PlainState). IsLinked s) (ok_is h) is
linked-laid m n (x ∷ xs) is h = let parts = first_act m n x xs h in linked-laid (effect m x.1) n xs (linked-kept m x.1 parts.0 is) parts.1

-- a linked state is built by its own acts, part by part
parts_built : (m : PlainState) → IsLinked m → Builds empty (acts_of m) m
parts_built m is =
    let vlans : List Act = map (λ e. VlanAdd e.0 e.1.name) m.vlans in
    let ports : List Act = flat_map port_acts m.ports in
    let intfs : List Act = map (λ e. IntfAdd e.0 e.1.vlan e.1.vrf e.1.mac) m.intfs in
    let addrs : List Act = flat_map addr_acts m.intfs in
    let neighbors : List Act = map (λ e. neighbor_act e.0 e.1) m.neighbors in
    let macs : List Act = map (λ e. MacSet e.0.vlan e.0.mac e.1.port) m.macs in
    let routes : List Act = map (λ e. RouteSet e.0.vrf e.0.prefix e.0.client (via_of e.1)) m.routes in
    let whole_addrs : Builds (with_front_intfs m (bare m.intfs)) addrs (with_front_neighbors m []) = builds_as _ _ _ _ (ap (with_front_intfs m) (append-nil m.intfs)) (addrs_built m is) in
    builds_then empty (with_front_macs m m.macs) m (vlans ++ ports ++ intfs ++ addrs ++ neighbors ++ macs) routes
    (builds_then empty (with_front_neighbors m m.neighbors) (with_front_macs m m.macs) (vlans ++ ports ++ intfs ++ addrs ++ neighbors) macs
    (builds_then empty (with_front_neighbors m []) (with_front_neighbors m m.neighbors) (vlans ++ ports ++ intfs ++ addrs) neighbors
    (builds_then empty (with_front_intfs m (bare m.intfs)) (with_front_neighbors m []) (vlans ++ ports ++ intfs) addrs
    (builds_then empty (with_front_ports m m.ports) (with_front_intfs m (bare m.intfs)) (vlans ++ ports) intfs
    (builds_then empty (with_front_vlans m.vlans) (with_front_ports m m.ports) vlans ports (vlans_built m is) (ports_built m is))
    (intfs_built m is))
    whole_addrs)
    (neighbors_built m is))
    (macs_built m is))
    (routes_built m is)

pub sound-from_linked : (m : PlainState) → IsLinked m → IsSound m
sound-from_linked m is = (parts_built m is).built_is 0

pub linked-from_sound : (m : PlainState) → IsSound m → IsLinked m
linked-from_sound m sound = linked-laid empty m (placed 0 (acts_of m)) linked-empty sound

pub sound-linked : (m : PlainState) → IsSound m ↔ IsLinked m
sound-linked m = (linked-from_sound m, sound-from_linked m)

pub sound-kept : (m : PlainState) (act : Act) → IsSound m → reason_of_act m act ≡ None → IsSound (effect m act)
sound-kept m act sound none = sound-from_linked (effect m act) (linked-kept m act none (linked-from_sound m sound))

pub sound-laid : (m n : PlainState) (acts : List (ℕ × Act)) → IsSound m → laid m acts ≡ Ok n → IsSound n
sound-laid m n acts sound h = sound-from_linked n (linked-laid m n acts (linked-from_sound m sound) h)

pub sound-built : (m : PlainState) (acts : List Act) → built empty acts ≡ Ok m → IsSound m
sound-built m acts h = sound-from_linked m (linked-laid empty m (placed 0 acts) linked-empty h)

-- what became of an update: with no reason its effect, and else nothing
pub sound-next : (m n : PlainState) (act : Act) (o : Option Reason) → reason_of_act m act ≡ o → (o ≡ None → n ≡ effect m act) → ((r : Reason) → o ≡ Some r → n ≡ m) → IsSound m → IsSound n
sound-next m n act None is done same sound = subst (λ (s : PlainState). IsSound s) (sym (done refl)) (sound-kept m act sound is)
sound-next m n act (Some r) is done same sound = subst (λ (s : PlainState). IsSound s) (sym (same r refl)) sound
