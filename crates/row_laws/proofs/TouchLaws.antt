-- Rows differ only where a difference can touch them.
use Rattle.std.proofs.Common.{◌≡◌, ◌&&◌, ◌||◌, ◌==◌, ℕ, Bool, true, false, Option, None, Some, List, [], ◌∷◌, ◌++◌, filter, length, map, refl, sym, ap, ◌∙◌, subst, inl, inr}
use Rattle.std.specs.Prelude.{nat_le}
use Rattle.std.proofs.lemmas.Bool.{and_parts, cases_Bool, eq-eqb}
use Rattle.std.proofs.lemmas.List.Elements.{Contains-append_left, Contains-append_right}
use Rattle.std.specs.List.{Contains, list_any, flat_map}
use Rattle.std.specs.Option.{is_some, option_map}
use Rattle.keyed.specs.Keyed.{at, Ascends}
use Rattle.keyed.specs.EntryLaws.{at_contains, contains_at}
use Rattle.keyed.specs.ListLaws.{any_true, true_any}
use Rattle.keyed.specs.Members.{contains_first, contains_later, map_contains, filter_contains, flat_map_contains}
use Rattle.net_types.specs.declared.table.HostAct.{HostAct}
use Rattle.net_types.specs.declared.table.HostAct.TheVariants as act
use Rattle.net_types.specs.declared.table.HostKey.{HostKey}
use Rattle.net_types.specs.declared.table.HostRow.{HostRow}
use Rattle.net_types.specs.declared.table.L2Key.{L2Key}
use Rattle.net_types.specs.declared.table.L2Row.{L2Row}
use Rattle.net_types.specs.declared.table.RouteKey.{RouteKey}
use Rattle.net_types.specs.KeyOrder.{l2_cmp, l2_order, host_cmp, group_cmp, route_cmp, route_order}
use Rattle.switch_model.specs.declared.key.NeighborKey.{NeighborKey}
use Rattle.switch_model.specs.declared.record.FibEntry.{FibEntry}
use Rattle.switch_model.specs.declared.record.IntfRec.{IntfRec}
use Rattle.switch_model.specs.declared.record.MacRec.{MacRec}
use Rattle.switch_model.specs.declared.record.NeighborRec.{NeighborRec}
use Rattle.switch_model.specs.declared.record.NeighborRec.TheVariants.{Pending, Reachable}
use Rattle.switch_model.specs.Facts.{is_behind}
use Rattle.switch_model.specs.Fib.{fibs}
use Rattle.switch_model.specs.PlainState.{PlainState, rib, port_at, intf_at, mac_at, neighbor_at}
use Rattle.switch_model.specs.Rows.{is_up, l2_row, host_of_neighbor, host_act, host_row, hosts, neighbor_of_host, forward_hosts, group_of_hosts, target_of_entry, live, is_live_neighbor, rows}
use Rattle.switch_model.specs.StateKeys.{neighbor_cmp, neighbor_order}
use Rattle.row_laws.specs.RowAt.{fib_at, entry_hosts, hosts_at, forwards_to, is_forward_to, fibs_of, is_host, is_group, l2_row_at, host_row_at, group_row_at}
use Rattle.row_laws.specs.Touching.{DifferOnlyAt, Differences, AreDifferences, vrf_at, stations_behind, neighbors_behind, hosts_on, groups_with, hosts_seen, l2_touched, host_touched, group_touched, route_touched}
use Rattle.row_laws.proofs.Tests.{one_truth, if_true, if_false}
use Rattle.row_laws.proofs.AtLaws.{fibs_ascend, l2-at, host-at, group-at, route-at, forwards_host, host_forwards, listed_host, as_group_has, forward_is}

-- what stands behind a port
station_behind : (n : PlainState) (key : L2Key) (mac : MacRec) → mac_at n key ≡ Some mac → Contains (stations_behind n mac.port) key
station_behind n key mac is =
    let test : L2Key × MacRec → Bool = λ e. e.1.port == mac.port in
    map_contains (λ (e : L2Key × MacRec). e.0) (filter test n.macs) (key, mac) (filter_contains test n.macs (key, mac) (at_contains l2_cmp l2_order key mac n.macs is) (eq-eqb mac.port mac.port refl))

neighbor_behind : (n : PlainState) (key : NeighborKey) (mac port : ℕ) → neighbor_at n key ≡ Some (Reachable mac port) → Contains (neighbors_behind n port) key
neighbor_behind n key mac port is =
    let test : NeighborKey × NeighborRec → Bool = λ e. is_behind port e.1 in
    map_contains (λ (e : NeighborKey × NeighborRec). e.0) (filter test n.neighbors) (key, Reachable mac port) (filter_contains test n.neighbors (key, Reachable mac port) (at_contains neighbor_cmp neighbor_order key (Reachable mac port) n.neighbors is) (eq-eqb port port refl))

-- an entry that is found in one state is found in the other
goes_over : (keys : List RouteKey) (a b : PlainState) (test : FibEntry → Bool) → DifferOnlyAt keys (fib_at a) (fib_at b) → ((key : RouteKey) (entry : FibEntry) → Contains keys key → fib_at a key ≡ Some entry → test entry ≡ true → ⊥) → list_any (λ e. test e.1) (fibs (rib a)) ≡ true → list_any (λ e. test e.1) (fibs (rib b)) ≡ true
goes_over keys a b test only absent holds =
    let found = any_true (λ (e : RouteKey × FibEntry). test e.1) (fibs (rib a)) holds in
    let was : fib_at a found.0.0 ≡ Some found.0.1 = contains_at route_cmp route_order found.0 (fibs (rib a)) (fibs_ascend a) found.1 in
    let is : fib_at b found.0.0 ≡ Some found.0.1 = sym (only.same found.0.0 (λ has. absent found.0.0 found.0.1 has was found.2)) ∙ was in
    true_any (λ (e : RouteKey × FibEntry). test e.1) (fibs (rib b)) (found.0.0, found.0.1) (at_contains route_cmp route_order found.0.0 found.0.1 (fibs (rib b)) is) found.2

turned : {K V : Type 0} (keys : List K) (f g : K → V) → DifferOnlyAt keys f g → DifferOnlyAt keys g f
turned keys f g only = record { same = λ k absent. sym (only.same k absent) }

any_same : (keys : List RouteKey) (a b : PlainState) (test : FibEntry → Bool) → DifferOnlyAt keys (fib_at a) (fib_at b) →
    ((key : RouteKey) (entry : FibEntry) → Contains keys key → fib_at a key ≡ Some entry → test entry ≡ true → ⊥) →
    ((key : RouteKey) (entry : FibEntry) → Contains keys key → fib_at b key ≡ Some entry → test entry ≡ true → ⊥) →
    list_any (λ e. test e.1) (fibs (rib a)) ≡ list_any (λ e. test e.1) (fibs (rib b))
any_same keys a b test only not_a not_b =
    one_truth (list_any (λ e. test e.1) (fibs (rib a))) (list_any (λ e. test e.1) (fibs (rib b))) (goes_over keys a b test only not_a) (goes_over keys b a test (turned keys (fib_at a) (fib_at b) only) not_b)

abbrev row_with : ℕ → Bool → Option L2Row
row_with port up = Some (record { port = port; up = up })

-- the VRF is all that a row has of its interface
abbrev row_by : HostAct → Option ℕ → Option HostRow
row_by a o = option_map (λ v. record { vrf = v; act = a }) o

by_vrf : (a : HostAct) (o : Option IntfRec) → option_map (λ (i : IntfRec). record { vrf = i.vrf; act = a }) o ≡ row_by a (option_map (λ i. i.vrf) o)
by_vrf a None = refl
by_vrf a (Some i) = refl

marks_same : (f g : HostKey → Bool) (hosts : List HostKey) → ((host : HostKey) → Contains hosts host → f host ≡ g host) → map f hosts ≡ map g hosts
marks_same f g [] each = refl
marks_same f g (h ∷ hs) each = ap (λ (b : Bool). b ∷ map f hs) (each h (contains_first h hs)) ∙ ap (λ (l : List Bool). g h ∷ l) (marks_same f g hs (λ host has. each host (contains_later h hs host has)))

module _ (d : Differences) (m n : PlainState) (diff : AreDifferences d m n) where
  l2_as : (k : L2Key) (o : Option MacRec) → mac_at n k ≡ o → (Contains (l2_touched n d) k → ⊥) → option_map (l2_row m) o ≡ option_map (l2_row n) o
  l2_as k None is absent = refl
  l2_as k (Some mac) is absent =
      let up : is_up (port_at m mac.port) ≡ is_up (port_at n mac.port) = diff.ports.same mac.port (λ has. absent (Contains-append_right d.macs (flat_map (stations_behind n) d.ports) k (flat_map_contains (stations_behind n) d.ports mac.port k has (station_behind n k mac is)))) in
      ap (row_with mac.port) up

  l2_same : (k : L2Key) → (Contains (l2_touched n d) k → ⊥) → l2_row_at m k ≡ l2_row_at n k
  l2_same k absent = ap (option_map (l2_row m)) (diff.macs.same k (λ has. absent (Contains-append_left d.macs (flat_map (stations_behind n) d.ports) k has))) ∙ l2_as k (mac_at n k) refl absent

  pub l2_only : DifferOnlyAt (l2_touched n d) (λ k. at l2_cmp k (rows m).l2) (λ k. at l2_cmp k (rows n).l2)
  l2_only = record { same = λ k absent. l2-at m k ∙ l2_same k absent ∙ sym (l2-at n k) }

  pub route_only : DifferOnlyAt (route_touched d) (λ k. at route_cmp k (rows m).route) (λ k. at route_cmp k (rows n).route)
  route_only = record { same = λ k absent. route-at m k ∙ ap (option_map target_of_entry) (diff.fibs.same k absent) ∙ sym (route-at n k) }

  -- a host that isn't seen
  module _ (host : HostKey) (absent : Contains (hosts_seen n d) host → ⊥) where
    neighbor_same : neighbor_at m (neighbor_of_host host) ≡ neighbor_at n (neighbor_of_host host)
    neighbor_same = diff.neighbors.same (neighbor_of_host host) (λ has. absent (map_contains host_of_neighbor (d.neighbors ++ flat_map (neighbors_behind n) d.ports) (neighbor_of_host host) (Contains-append_left d.neighbors (flat_map (neighbors_behind n) d.ports) (neighbor_of_host host) has)))

    up_same : (mac port : ℕ) → neighbor_at n (neighbor_of_host host) ≡ Some (Reachable mac port) → is_up (port_at m port) ≡ is_up (port_at n port)
    up_same mac port is = diff.ports.same port (λ has. absent (map_contains host_of_neighbor (d.neighbors ++ flat_map (neighbors_behind n) d.ports) (neighbor_of_host host) (Contains-append_right d.neighbors (flat_map (neighbors_behind n) d.ports) (neighbor_of_host host) (flat_map_contains (neighbors_behind n) d.ports port (neighbor_of_host host) has (neighbor_behind n (neighbor_of_host host) mac port is)))))

    act_as : (o : Option NeighborRec) → neighbor_at n (neighbor_of_host host) ≡ o → host_act m o ≡ host_act n o
    act_as None is = refl
    act_as (Some Pending) is = refl
    act_as (Some (Reachable mac port)) is = ap (act.Forward mac port) (up_same mac port is)

    act_same : host_act m (neighbor_at m (neighbor_of_host host)) ≡ host_act n (neighbor_at n (neighbor_of_host host))
    act_same = ap (host_act m) neighbor_same ∙ act_as (neighbor_at n (neighbor_of_host host)) refl

    live_as : (o : Option NeighborRec) → neighbor_at n (neighbor_of_host host) ≡ o → is_live_neighbor m o ≡ is_live_neighbor n o
    live_as None is = refl
    live_as (Some Pending) is = refl
    live_as (Some (Reachable mac port)) is = up_same mac port is

    live_same : live m host ≡ live n host
    live_same = ap (is_live_neighbor m) neighbor_same ∙ live_as (neighbor_at n (neighbor_of_host host)) refl

  -- a host that isn't touched
  module _ (host : HostKey) (absent : Contains (host_touched m n d) host → ⊥) where
    abbrev hops : List HostKey
    hops = flat_map (λ key. hosts_at m key ++ hosts_at n key) d.fibs

    abbrev on : List HostKey
    on = flat_map (hosts_on n) d.intfs

    unseen : Contains (hosts_seen n d) host → ⊥
    unseen has = absent (Contains-append_left (hosts_seen n d ++ hops) on host (Contains-append_left (hosts_seen n d) hops host has))

    not_hop : (key : RouteKey) → Contains d.fibs key → Contains (hosts_at m key ++ hosts_at n key) host → ⊥
    not_hop key has there = absent (Contains-append_left (hosts_seen n d ++ hops) on host (Contains-append_right (hosts_seen n d) hops host (flat_map_contains (λ key. hosts_at m key ++ hosts_at n key) d.fibs key host has there)))

    not_old : (key : RouteKey) (entry : FibEntry) → Contains d.fibs key → fib_at m key ≡ Some entry → forwards_to host entry ≡ true → ⊥
    not_old key entry has is holds = not_hop key has (Contains-append_left (hosts_at m key) (hosts_at n key) host (subst (λ (o : Option FibEntry). Contains (entry_hosts o) host) (sym is) (forwards_host host entry holds)))

    not_new : (key : RouteKey) (entry : FibEntry) → Contains d.fibs key → fib_at n key ≡ Some entry → forwards_to host entry ≡ true → ⊥
    not_new key entry has is holds = not_hop key has (Contains-append_right (hosts_at m key) (hosts_at n key) host (subst (λ (o : Option FibEntry). Contains (entry_hosts o) host) (sym is) (forwards_host host entry holds)))

    is_host_same : is_host m host ≡ is_host n host
    is_host_same =
        ap (λ (o : Option NeighborRec). is_some o || list_any (λ e. forwards_to host e.1) (fibs (rib m))) (neighbor_same host unseen)
        ∙ ap (λ (b : Bool). is_some (neighbor_at n (neighbor_of_host host)) || b) (any_same d.fibs m n (forwards_to host) diff.fibs not_old not_new)

    vrf_same : is_host n host ≡ true → vrf_at m host.intf ≡ vrf_at n host.intf
    vrf_same holds = diff.intfs.same host.intf (λ has. absent (Contains-append_right (hosts_seen n d ++ hops) on host (flat_map_contains (hosts_on n) d.intfs host.intf host has (filter_contains (λ (h : HostKey). h.intf == host.intf) (hosts n) host (listed_host n host holds) (eq-eqb host.intf host.intf refl)))))

    row_same : is_host n host ≡ true → host_row m host ≡ host_row n host
    row_same holds =
        by_vrf (host_act m (neighbor_at m (neighbor_of_host host))) (intf_at m host.intf)
        ∙ ap (λ (a : HostAct). row_by a (vrf_at m host.intf)) (act_same host unseen)
        ∙ ap (row_by (host_act n (neighbor_at n (neighbor_of_host host)))) (vrf_same holds)
        ∙ sym (by_vrf (host_act n (neighbor_at n (neighbor_of_host host))) (intf_at n host.intf))

    host_same : host_row_at m host ≡ host_row_at n host
    host_same = elim (cases_Bool (is_host n host)) [
      | inl holds ↦ if_true (is_host m host) (host_row m host) None (is_host_same ∙ holds) ∙ row_same holds ∙ sym (if_true (is_host n host) (host_row n host) None holds)
      | inr fails ↦ if_false (is_host m host) (host_row m host) None (is_host_same ∙ fails) ∙ sym (if_false (is_host n host) (host_row n host) None fails)
    ]

  pub host_only : Ascends neighbor_cmp m.neighbors → Ascends neighbor_cmp n.neighbors → DifferOnlyAt (host_touched m n d) (λ k. at host_cmp k (rows m).host) (λ k. at host_cmp k (rows n).host)
  host_only asc bsc = record { same = λ k absent. host-at m k asc ∙ host_same k absent ∙ sym (host-at n k bsc) }

  -- a group that isn't touched
  module _ (all : List HostKey) (absent : Contains (group_touched m n d) all → ⊥) where
    abbrev sets : List (List HostKey)
    sets = flat_map (λ key. group_of_hosts (hosts_at m key) ++ group_of_hosts (hosts_at n key)) d.fibs

    not_set : (key : RouteKey) → Contains d.fibs key → Contains (group_of_hosts (hosts_at m key) ++ group_of_hosts (hosts_at n key)) all → ⊥
    not_set key has there = absent (Contains-append_left sets (flat_map (groups_with n) (hosts_seen n d)) all (flat_map_contains (λ key. group_of_hosts (hosts_at m key) ++ group_of_hosts (hosts_at n key)) d.fibs key all has there))

    set_of_entry : (a : PlainState) (key : RouteKey) (entry : FibEntry) → nat_le 2 (length all) ≡ true → fib_at a key ≡ Some entry → is_forward_to all entry ≡ true → Contains (group_of_hosts (hosts_at a key)) all
    set_of_entry a key entry several is holds =
        subst (λ (o : Option FibEntry). Contains (group_of_hosts (entry_hosts o)) all) (sym is) (subst (λ (l : List HostKey). Contains (group_of_hosts l) all) (forward_is all entry holds) (as_group_has all several))

    is_group_as : (b : Bool) → nat_le 2 (length all) ≡ b → (b && list_any (λ e. is_forward_to all e.1) (fibs (rib m))) ≡ (b && list_any (λ e. is_forward_to all e.1) (fibs (rib n)))
    is_group_as false is = refl
    is_group_as true is = any_same d.fibs m n (is_forward_to all) diff.fibs
        (λ key entry has at_key holds. not_set key has (Contains-append_left (group_of_hosts (hosts_at m key)) (group_of_hosts (hosts_at n key)) all (set_of_entry m key entry is at_key holds)))
        (λ key entry has at_key holds. not_set key has (Contains-append_right (group_of_hosts (hosts_at m key)) (group_of_hosts (hosts_at n key)) all (set_of_entry n key entry is at_key holds)))

    is_group_same : is_group m all ≡ is_group n all
    is_group_same = is_group_as (nat_le 2 (length all)) refl

    member_unseen : is_group n all ≡ true → (host : HostKey) → Contains all host → Contains (hosts_seen n d) host → ⊥
    member_unseen holds host has seen =
        let test : RouteKey × FibEntry → Bool = λ e. forwards_to host e.1 in
        let both = and_parts (nat_le 2 (length all)) (list_any (λ (e : RouteKey × FibEntry). is_forward_to all e.1) (fibs (rib n))) holds in
        let found = any_true (λ (e : RouteKey × FibEntry). is_forward_to all e.1) (fibs (rib n)) both.1 in
        let at_key : fib_at n found.0.0 ≡ Some found.0.1 = contains_at route_cmp route_order found.0 (fibs (rib n)) (fibs_ascend n) found.1 in
        let member : Contains (forward_hosts found.0.1) host = subst (λ (l : List HostKey). Contains l host) (forward_is all found.0.1 found.2) has in
        let uses : Contains (fibs_of n host) found.0.0 = map_contains (λ (e : RouteKey × FibEntry). e.0) (filter test (fibs (rib n))) found.0 (filter_contains test (fibs (rib n)) found.0 found.1 (host_forwards host found.0.1 member)) in
        let one : Contains (groups_with n host) all = flat_map_contains (λ key. group_of_hosts (hosts_at n key)) (fibs_of n host) found.0.0 all uses (set_of_entry n found.0.0 found.0.1 both.0 at_key found.2) in
        absent (Contains-append_right sets (flat_map (groups_with n) (hosts_seen n d)) all (flat_map_contains (groups_with n) (hosts_seen n d) host all seen one))

    group_same : group_row_at m all ≡ group_row_at n all
    group_same = elim (cases_Bool (is_group n all)) [
      | inl holds ↦
          if_true (is_group m all) (Some (map (live m) all)) None (is_group_same ∙ holds)
          ∙ ap Some (marks_same (live m) (live n) all (λ host has. live_same host (member_unseen holds host has)))
          ∙ sym (if_true (is_group n all) (Some (map (live n) all)) None holds)
      | inr fails ↦ if_false (is_group m all) (Some (map (live m) all)) None (is_group_same ∙ fails) ∙ sym (if_false (is_group n all) (Some (map (live n) all)) None fails)
    ]

  pub group_only : DifferOnlyAt (group_touched m n d) (λ k. at group_cmp k (rows m).group) (λ k. at group_cmp k (rows n).group)
  group_only = record { same = λ k absent. group-at m k ∙ group_same k absent ∙ sym (group-at n k) }
