-- The effect of an act leaves all but the touched keys as it was.
use Rattle.std.proofs.Common.{◌≡◌, ◌≢◌, ℕ, not, List, [], ◌∷◌, ◌++◌, Option, None, Some, filter, refl, sym, ap, ◌∙◌, subst}
use Rattle.std.specs.List.{Contains}
use Rattle.std.specs.Ordering.{nat_cmp, match_ordering}
use Rattle.std.specs.declared.cmp.Ordering.{Ordering}
use Rattle.std.proofs.lemmas.List.Elements.{Contains-append_left, Contains-append_right}
use Rattle.keyed.specs.Keyed.{IsKeyOrder, at, change, put, without, Ascends}
use Rattle.keyed.specs.KeyOrders.{nat_order}
use Rattle.keyed.specs.KeyedLaws.{by_order, at-put_other, at-without_other}
use Rattle.keyed.specs.ValueLaws.{at-change_other}
use Rattle.keyed.specs.Members.{contains_first, contains_later, filter_contains, map_contains}
use Rattle.net_types.specs.declared.client.Client.{Client}
use Rattle.net_types.specs.declared.ip.Ip.TheVariants.{V4, V6}
use Rattle.net_types.specs.declared.table.L2Key.{L2Key}
use Rattle.net_types.specs.Cidr.{Cidr}
use Rattle.net_types.specs.KeyOrder.{l2_cmp, l2_order}
use Rattle.switch_model.specs.declared.act.Act.{Act}
use Rattle.switch_model.specs.declared.act.Act.TheVariants.{VlanAdd, VlanDel, PortAdd, PortDel, PortVlan, PortUp, PortDown, IntfAdd, IntfDel, AddrAdd, AddrDel, NeighborSet, NeighborPending, NeighborDel, MacSet, MacDel, RouteSet, RouteDel, ClientSync}
use Rattle.switch_model.specs.declared.key.NeighborKey.{NeighborKey}
use Rattle.switch_model.specs.declared.key.RibKey.{RibKey}
use Rattle.switch_model.specs.declared.record.IntfRec.{IntfRec}
use Rattle.switch_model.specs.declared.record.MacRec.{MacRec}
use Rattle.switch_model.specs.declared.record.NeighborRec.{NeighborRec}
use Rattle.switch_model.specs.declared.record.PortRec.{PortRec}
use Rattle.switch_model.specs.declared.record.RouteRec.{RouteRec}
use Rattle.switch_model.specs.declared.record.VlanRec.{VlanRec}
use Rattle.switch_model.specs.declared.via.Via.{Via}
use Rattle.switch_model.specs.Effect.{effect, is_route_of, route_of, with_routes}
use Rattle.switch_model.specs.PlainState.{ArePartsInOrder, PlainState}
use Rattle.switch_model.specs.StateKeys.{neighbor_cmp, neighbor_order, rib_cmp, rib_order}
use Rattle.switch_model.specs.Touched.{keys_listed, keys_there, touched, untouched}
use Rattle.switch_model.specs.Untouched.{SameBeside, SameUntouched}
use Rattle.keyed.specs.Cases.{by_bool}
use Rattle.keyed.specs.EntryLaws.{at_contains}
use Rattle.keyed.specs.FilterLaws.{at-filter_in, at-filter_out}

apart : {K : Type 0} (k q : K) → (Contains (k ∷ []) q → ⊥) → q ≢ k
apart {K} k q other is = other (subst (λ (x : K). Contains (k ∷ []) x) (sym is) (contains_first k []))

module _ {K V : Type 0} (cmp : K → K → Ordering) (is_order : IsKeyOrder cmp) where
  beside-put : (k : K) (v : V) (l : List (K × V)) → SameBeside cmp (k ∷ []) l (put cmp k v l)
  beside-put k v l q other = at-put_other cmp is_order q k v l (apart k q other)

  beside-without : (k : K) (l : List (K × V)) → Ascends cmp l → SameBeside cmp (k ∷ []) l (without cmp k l)
  beside-without k l asc q other = at-without_other cmp is_order q k l asc (apart k q other)

  beside-change : (k : K) (f : V → V) (l : List (K × V)) → SameBeside cmp (k ∷ []) l (change cmp k f l)
  beside-change k f l q other = at-change_other cmp is_order q k f l (apart k q other)

-- routes that are put one by one
listed_beside : (vrf : ℕ) (client : Client) (rs : List (Cidr × Via)) (l : List (RibKey × RouteRec)) → SameBeside rib_cmp (keys_listed vrf client rs) l (with_routes vrf client rs l)
listed_beside vrf client [] l q other = refl
listed_beside vrf client (r ∷ rs) l q other =
    let k : RibKey = record { vrf = vrf; prefix = r.0; client = client } in
    listed_beside vrf client rs (put rib_cmp k (route_of r.1) l) q (λ h. other (contains_later k (keys_listed vrf client rs) q h))
    ∙ at-put_other rib_cmp rib_order q k (route_of r.1) l (λ is. other (subst (λ (x : RibKey). Contains (keys_listed vrf client (r ∷ rs)) x) (sym is) (contains_first k (keys_listed vrf client rs))))

-- routes of a client taken away
others_beside : (m : PlainState) (vrf : ℕ) (client : Client) → Ascends rib_cmp m.routes → SameBeside rib_cmp (keys_there m vrf client) m.routes (filter (λ e. not (is_route_of vrf client e.0)) m.routes)
others_beside m vrf client asc q other = by_bool (is_route_of vrf client q)
    (λ own.
    at-filter_out rib_cmp rib_order (λ (k : RibKey). not (is_route_of vrf client k)) q m.routes (ap not own)
    ∙ sym (none_there (at rib_cmp q m.routes) (λ v is.
    other (map_contains (λ (e : RibKey × RouteRec). e.0) (filter (λ e. is_route_of vrf client e.0) m.routes) (q, v) (filter_contains (λ (e : RibKey × RouteRec). is_route_of vrf client e.0) m.routes (q, v) (at_contains rib_cmp rib_order q v m.routes is) own)))))
    (λ not_own. at-filter_in rib_cmp rib_order (λ (k : RibKey). not (is_route_of vrf client k)) q m.routes asc (ap not not_own))
  where
    none_there : {V : Type 0} (o : Option V) → ((v : V) → o ≡ Some v → ⊥) → o ≡ None
    none_there None never = refl
    none_there (Some v) never = absurd (never v refl)

synced_beside : (m : PlainState) (vrf : ℕ) (client : Client) (rs : List (Cidr × Via)) → Ascends rib_cmp m.routes → SameBeside rib_cmp (keys_there m vrf client ++ keys_listed vrf client rs) m.routes (with_routes vrf client rs (filter (λ e. not (is_route_of vrf client e.0)) m.routes))
synced_beside m vrf client rs asc q other =
    listed_beside vrf client rs (filter (λ e. not (is_route_of vrf client e.0)) m.routes) q (λ h. other (Contains-append_right (keys_there m vrf client) (keys_listed vrf client rs) q h))
    ∙ others_beside m vrf client asc q (λ h. other (Contains-append_left (keys_there m vrf client) (keys_listed vrf client rs) q h))

still : {K V : Type 0} (cmp : K → K → Ordering) (keys : List K) (l : List (K × V)) → SameBeside cmp keys l l
still cmp keys l q other = refl

module _ (m : PlainState) where
  in_vlans : (keys : List ℕ) (l : List (ℕ × VlanRec)) → SameBeside nat_cmp keys m.vlans l → SameUntouched (record untouched { vlans = keys }) m (record m { vlans = l })
  in_vlans keys l same = record { vlans = same; ports = still nat_cmp [] m.ports; intfs = still nat_cmp [] m.intfs; macs = still l2_cmp [] m.macs; neighbors = still neighbor_cmp [] m.neighbors; routes = still rib_cmp [] m.routes }

  in_ports : (keys : List ℕ) (l : List (ℕ × PortRec)) → SameBeside nat_cmp keys m.ports l → SameUntouched (record untouched { ports = keys }) m (record m { ports = l })
  in_ports keys l same = record { vlans = still nat_cmp [] m.vlans; ports = same; intfs = still nat_cmp [] m.intfs; macs = still l2_cmp [] m.macs; neighbors = still neighbor_cmp [] m.neighbors; routes = still rib_cmp [] m.routes }

  in_intfs : (keys : List ℕ) (l : List (ℕ × IntfRec)) → SameBeside nat_cmp keys m.intfs l → SameUntouched (record untouched { intfs = keys }) m (record m { intfs = l })
  in_intfs keys l same = record { vlans = still nat_cmp [] m.vlans; ports = still nat_cmp [] m.ports; intfs = same; macs = still l2_cmp [] m.macs; neighbors = still neighbor_cmp [] m.neighbors; routes = still rib_cmp [] m.routes }

  in_macs : (keys : List L2Key) (l : List (L2Key × MacRec)) → SameBeside l2_cmp keys m.macs l → SameUntouched (record untouched { macs = keys }) m (record m { macs = l })
  in_macs keys l same = record { vlans = still nat_cmp [] m.vlans; ports = still nat_cmp [] m.ports; intfs = still nat_cmp [] m.intfs; macs = same; neighbors = still neighbor_cmp [] m.neighbors; routes = still rib_cmp [] m.routes }

  in_neighbors : (arps ndps : List NeighborKey) (l : List (NeighborKey × NeighborRec)) → SameBeside neighbor_cmp (arps ++ ndps) m.neighbors l → SameUntouched (record untouched { arps = arps; ndps = ndps }) m (record m { neighbors = l })
  in_neighbors arps ndps l same = record { vlans = still nat_cmp [] m.vlans; ports = still nat_cmp [] m.ports; intfs = still nat_cmp [] m.intfs; macs = still l2_cmp [] m.macs; neighbors = same; routes = still rib_cmp [] m.routes }

  in_routes : (keys : List RibKey) (l : List (RibKey × RouteRec)) → SameBeside rib_cmp keys m.routes l → SameUntouched (record untouched { routes = keys }) m (record m { routes = l })
  in_routes keys l same = record { vlans = still nat_cmp [] m.vlans; ports = still nat_cmp [] m.ports; intfs = still nat_cmp [] m.intfs; macs = still l2_cmp [] m.macs; neighbors = still neighbor_cmp [] m.neighbors; routes = same }

pub leaves : (m : PlainState) (act : Act) → ArePartsInOrder m → SameUntouched (touched m act) m (effect m act)
leaves m (VlanAdd vlan name) asc = in_vlans m _ _ (beside-put nat_cmp nat_order vlan _ m.vlans)
leaves m (VlanDel vlan) asc = in_vlans m _ _ (beside-without nat_cmp nat_order vlan m.vlans asc.vlans)
leaves m (PortAdd port vlan) asc = in_ports m _ _ (beside-put nat_cmp nat_order port _ m.ports)
leaves m (PortDel port) asc = in_ports m _ _ (beside-without nat_cmp nat_order port m.ports asc.ports)
leaves m (PortVlan port vlan) asc = in_ports m _ _ (beside-change nat_cmp nat_order port _ m.ports)
leaves m (PortUp port) asc = in_ports m _ _ (beside-change nat_cmp nat_order port _ m.ports)
leaves m (PortDown port) asc = in_ports m _ _ (beside-change nat_cmp nat_order port _ m.ports)
leaves m (IntfAdd intf vlan vrf mac) asc = in_intfs m _ _ (beside-put nat_cmp nat_order intf _ m.intfs)
leaves m (IntfDel intf) asc = in_intfs m _ _ (beside-without nat_cmp nat_order intf m.intfs asc.intfs)
leaves m (AddrAdd intf addr) asc = in_intfs m _ _ (beside-change nat_cmp nat_order intf _ m.intfs)
leaves m (AddrDel intf addr) asc = in_intfs m _ _ (beside-change nat_cmp nat_order intf _ m.intfs)
leaves m (NeighborSet intf (V4 n) mac port) asc = in_neighbors m (record { intf = intf; ip = V4 n } ∷ []) [] _ (beside-put neighbor_cmp neighbor_order (record { intf = intf; ip = V4 n }) _ m.neighbors)
leaves m (NeighborSet intf (V6 n) mac port) asc = in_neighbors m [] (record { intf = intf; ip = V6 n } ∷ []) _ (beside-put neighbor_cmp neighbor_order (record { intf = intf; ip = V6 n }) _ m.neighbors)
leaves m (NeighborPending intf (V4 n)) asc = in_neighbors m (record { intf = intf; ip = V4 n } ∷ []) [] _ (beside-put neighbor_cmp neighbor_order (record { intf = intf; ip = V4 n }) _ m.neighbors)
leaves m (NeighborPending intf (V6 n)) asc = in_neighbors m [] (record { intf = intf; ip = V6 n } ∷ []) _ (beside-put neighbor_cmp neighbor_order (record { intf = intf; ip = V6 n }) _ m.neighbors)
leaves m (NeighborDel intf (V4 n)) asc = in_neighbors m (record { intf = intf; ip = V4 n } ∷ []) [] _ (beside-without neighbor_cmp neighbor_order (record { intf = intf; ip = V4 n }) m.neighbors asc.neighbors)
leaves m (NeighborDel intf (V6 n)) asc = in_neighbors m [] (record { intf = intf; ip = V6 n } ∷ []) _ (beside-without neighbor_cmp neighbor_order (record { intf = intf; ip = V6 n }) m.neighbors asc.neighbors)
leaves m (MacSet vlan mac port) asc = in_macs m _ _ (beside-put l2_cmp l2_order (record { vlan = vlan; mac = mac }) _ m.macs)
leaves m (MacDel vlan mac) asc = in_macs m _ _ (beside-without l2_cmp l2_order (record { vlan = vlan; mac = mac }) m.macs asc.macs)
leaves m (RouteSet vrf prefix client via) asc = in_routes m _ _ (beside-put rib_cmp rib_order (record { vrf = vrf; prefix = prefix; client = client }) _ m.routes)
leaves m (RouteDel vrf prefix client) asc = in_routes m _ _ (beside-without rib_cmp rib_order (record { vrf = vrf; prefix = prefix; client = client }) m.routes asc.routes)
leaves m (ClientSync vrf client routes) asc = in_routes m _ _ (synced_beside m vrf client routes asc.routes)
