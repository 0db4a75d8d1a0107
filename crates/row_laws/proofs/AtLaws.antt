-- The row under one key.
use Rattle.std.proofs.Common.{◌≡◌, Bool, true, false, Option, None, Some, List, [], ◌∷◌, length, map, if◌then◌else◌, refl, sym, ap, ◌∙◌, subst, inl, inr}
use Rattle.std.specs.Prelude.{nat_le}
use Rattle.std.proofs.lemmas.Bool.{and_from, and_parts, cases_Bool, or_cases, or_left, or_right}
use Rattle.std.proofs.lemmas.List.Elements.{Contains-append_left, Contains-append_right, Contains-append_cases}
use Rattle.std.specs.List.{Contains, list_any, flat_map}
use Rattle.std.specs.Option.{is_some}
use Rattle.std.specs.Ordering.{eq_by_cmp}
use Rattle.keyed.specs.Keyed.{at, Ascends}
use Rattle.keyed.specs.EntryLaws.{at_contains, contains_at}
use Rattle.keyed.specs.KeyedLaws.{at-with_values}
use Rattle.keyed.specs.ListLaws.{any_true, true_any}
use Rattle.keyed.specs.Members.{contains_first, contains_cases, contains_none, map_contains, contains_map, contains_flat_map, flat_map_contains}
use Rattle.keyed.specs.SetLaws.{at-entries_at, at-entries_at_other, ascends-entries_at}
use Rattle.net_types.specs.declared.table.HostKey.{HostKey}
use Rattle.net_types.specs.declared.table.L2Key.{L2Key}
use Rattle.net_types.specs.declared.table.RouteKey.{RouteKey}
use Rattle.net_types.specs.KeyOrder.{l2_cmp, l2_order, host_cmp, host_order, group_cmp, group_order, route_cmp, route_order}
use Rattle.switch_model.specs.declared.key.NeighborKey.{NeighborKey}
use Rattle.switch_model.specs.declared.record.FibEntry.{FibEntry}
use Rattle.switch_model.specs.declared.record.NeighborRec.{NeighborRec}
use Rattle.switch_model.specs.Fib.{fib, fibs}
use Rattle.switch_model.specs.LongestMatch.{best_keys}
use Rattle.switch_model.specs.PlainState.{PlainState, rib, neighbor_at}
use Rattle.switch_model.specs.Rows.{l2_row, host_of_neighbor, host_row, neighbor_of_host, forward_hosts, hosts, group_of_hosts, groups, target_of_entry, live, rows}
use Rattle.switch_model.specs.StateKeys.{neighbor_cmp, neighbor_order}
use Rattle.row_laws.specs.RowAt.{forwards_to, is_forward_to, is_host, is_group, l2_row_at, host_row_at, group_row_at, route_row_at}
use Rattle.row_laws.proofs.Tests.{false_true, if_true, if_false, some_value, tied_same, same_tied}

pub fibs_ascend : (m : PlainState) → Ascends route_cmp (fibs (rib m))
fibs_ascend m = ascends-entries_at route_cmp route_order (λ k. fib (rib m) k.vrf k.prefix) (best_keys (rib m))

pub l2-at : (m : PlainState) (key : L2Key) → at l2_cmp key (rows m).l2 ≡ l2_row_at m key
l2-at m key = at-with_values l2_cmp l2_order (l2_row m) key m.macs

pub route-at : (m : PlainState) (key : RouteKey) → at route_cmp key (rows m).route ≡ route_row_at m key
route-at m key = at-with_values route_cmp route_order target_of_entry key (fibs (rib m))

-- whether an entry forwards to a host
pub forwards_host : (host : HostKey) (entry : FibEntry) → forwards_to host entry ≡ true → Contains (forward_hosts entry) host
forwards_host host entry e =
    let found = any_true (eq_by_cmp host_cmp host) (forward_hosts entry) e in
    subst (λ (h : HostKey). Contains (forward_hosts entry) h) (sym (tied_same host_cmp host_order host found.0 found.2)) found.1

pub host_forwards : (host : HostKey) (entry : FibEntry) → Contains (forward_hosts entry) host → forwards_to host entry ≡ true
host_forwards host entry has = true_any (eq_by_cmp host_cmp host) (forward_hosts entry) host has (same_tied host_cmp host_order host)

pub listed_host : (m : PlainState) (host : HostKey) → is_host m host ≡ true → Contains (hosts m) host
listed_host m host e =
    let by_neighbor : List HostKey = map (λ (e : NeighborKey × NeighborRec). host_of_neighbor e.0) m.neighbors in
    let by_entry : List HostKey = flat_map (λ (e : RouteKey × FibEntry). forward_hosts e.1) (fibs (rib m)) in
    elim (or_cases (is_some (neighbor_at m (neighbor_of_host host))) (list_any (λ e. forwards_to host e.1) (fibs (rib m))) e) [
      | inl there ↦
          let is = some_value (neighbor_at m (neighbor_of_host host)) there in
          Contains-append_left by_neighbor by_entry host (map_contains (λ (e : NeighborKey × NeighborRec). host_of_neighbor e.0) m.neighbors (neighbor_of_host host, is.0) (at_contains neighbor_cmp neighbor_order (neighbor_of_host host) is.0 m.neighbors is.1))
      | inr some ↦
          let found = any_true (λ (e : RouteKey × FibEntry). forwards_to host e.1) (fibs (rib m)) some in
          Contains-append_right by_neighbor by_entry host (flat_map_contains (λ (e : RouteKey × FibEntry). forward_hosts e.1) (fibs (rib m)) found.0 host found.1 (forwards_host host found.0.1 found.2))
    ]

pub host_listed : (m : PlainState) (host : HostKey) → Ascends neighbor_cmp m.neighbors → Contains (hosts m) host → is_host m host ≡ true
host_listed m host asc has =
    let by_neighbor : List HostKey = map (λ (e : NeighborKey × NeighborRec). host_of_neighbor e.0) m.neighbors in
    let by_entry : List HostKey = flat_map (λ (e : RouteKey × FibEntry). forward_hosts e.1) (fibs (rib m)) in
    let one : Bool = is_some (neighbor_at m (neighbor_of_host host)) in
    let other : Bool = list_any (λ (e : RouteKey × FibEntry). forwards_to host e.1) (fibs (rib m)) in
    elim (Contains-append_cases by_neighbor by_entry host has) [
      | inl here ↦
          let e = contains_map (λ (e : NeighborKey × NeighborRec). host_of_neighbor e.0) m.neighbors host here in
          let is : neighbor_at m (neighbor_of_host host) ≡ Some e.0.1 = ap (λ (h : HostKey). neighbor_at m (neighbor_of_host h)) (sym e.2) ∙ contains_at neighbor_cmp neighbor_order e.0 m.neighbors asc e.1 in
          or_left one other (ap is_some is)
      | inr there ↦
          let e = contains_flat_map (λ (e : RouteKey × FibEntry). forward_hosts e.1) (fibs (rib m)) host there in
          or_right one other (true_any (λ (e : RouteKey × FibEntry). forwards_to host e.1) (fibs (rib m)) e.0 e.1 (host_forwards host e.0.1 e.2))
    ]

pub host-at : (m : PlainState) (host : HostKey) → Ascends neighbor_cmp m.neighbors → at host_cmp host (rows m).host ≡ host_row_at m host
host-at m host asc = elim (cases_Bool (is_host m host)) [
  | inl holds ↦ at-entries_at host_cmp host_order (host_row m) host (hosts m) (listed_host m host holds) ∙ sym (if_true (is_host m host) (host_row m host) None holds)
  | inr fails ↦ at-entries_at_other host_cmp host_order (host_row m) host (hosts m) (λ has. false_true (sym fails ∙ host_listed m host asc has)) ∙ sym (if_false (is_host m host) (host_row m host) None fails)
]

-- whether some entry forwards to just these hosts
pub as_group_has : (hosts : List HostKey) → nat_le 2 (length hosts) ≡ true → Contains (group_of_hosts hosts) hosts
as_group_has hosts e = subst (λ (l : List (List HostKey)). Contains l hosts) (sym (if_true (nat_le 2 (length hosts)) (hosts ∷ []) [] e)) (contains_first hosts [])

group_by : (b : Bool) (all hosts : List HostKey) → Contains (if b then all ∷ [] else []) hosts → (b ≡ true) × (hosts ≡ all)
group_by true all hosts has = (refl, elim (contains_cases all [] hosts has) [ inl e ↦ e | inr rest ↦ absurd (contains_none hosts rest) ])
group_by false all hosts has = absurd (contains_none hosts has)

pub has_as_group : (all hosts : List HostKey) → Contains (group_of_hosts all) hosts → (nat_le 2 (length all) ≡ true) × (hosts ≡ all)
has_as_group all hosts has = group_by (nat_le 2 (length all)) all hosts has

pub forward_is : (hosts : List HostKey) (entry : FibEntry) → is_forward_to hosts entry ≡ true → hosts ≡ forward_hosts entry
forward_is hosts entry e = tied_same group_cmp group_order hosts (forward_hosts entry) e

pub is_forward : (hosts : List HostKey) (entry : FibEntry) → hosts ≡ forward_hosts entry → is_forward_to hosts entry ≡ true
is_forward hosts entry e = ap (eq_by_cmp group_cmp hosts) (sym e) ∙ same_tied group_cmp group_order hosts

pub listed_group : (m : PlainState) (hosts : List HostKey) → is_group m hosts ≡ true → Contains (groups m) hosts
listed_group m hosts e =
    let both = and_parts (nat_le 2 (length hosts)) (list_any (λ (e : RouteKey × FibEntry). is_forward_to hosts e.1) (fibs (rib m))) e in
    let found = any_true (λ (e : RouteKey × FibEntry). is_forward_to hosts e.1) (fibs (rib m)) both.1 in
    flat_map_contains (λ (e : RouteKey × FibEntry). group_of_hosts (forward_hosts e.1)) (fibs (rib m)) found.0 hosts found.1 (subst (λ (l : List HostKey). Contains (group_of_hosts l) hosts) (forward_is hosts found.0.1 found.2) (as_group_has hosts both.0))

pub group_listed : (m : PlainState) (hosts : List HostKey) → Contains (groups m) hosts → is_group m hosts ≡ true
group_listed m hosts has =
    let e = contains_flat_map (λ (e : RouteKey × FibEntry). group_of_hosts (forward_hosts e.1)) (fibs (rib m)) hosts has in
    let one = has_as_group (forward_hosts e.0.1) hosts e.2 in
    and_from (nat_le 2 (length hosts)) (list_any (λ (e : RouteKey × FibEntry). is_forward_to hosts e.1) (fibs (rib m)))
    (ap (λ (l : List HostKey). nat_le 2 (length l)) one.1 ∙ one.0)
    (true_any (λ (e : RouteKey × FibEntry). is_forward_to hosts e.1) (fibs (rib m)) e.0 e.1 (is_forward hosts e.0.1 one.1))

pub group-at : (m : PlainState) (hosts : List HostKey) → at group_cmp hosts (rows m).group ≡ group_row_at m hosts
group-at m hosts =
    let marks : List HostKey → Option (List Bool) = λ hosts. Some (map (live m) hosts) in
    elim (cases_Bool (is_group m hosts)) [
      | inl holds ↦ at-entries_at group_cmp group_order marks hosts (groups m) (listed_group m hosts holds) ∙ sym (if_true (is_group m hosts) (marks hosts) None holds)
      | inr fails ↦ at-entries_at_other group_cmp group_order marks hosts (groups m) (λ has. false_true (sym fails ∙ group_listed m hosts has)) ∙ sym (if_false (is_group m hosts) (marks hosts) None fails)
    ]
