-- Whether a host or a group stands in the rows, by the FIB keys of one hop.
use Rattle.std.proofs.Common.{◌≡◌, ◌==◌, ◌&&◌, ◌||◌, suc, not, Bool, true, List, [], ◌∷◌, filter, length, refl, sym, ap, subst, ◌∙◌, arith}
use Rattle.std.specs.Prelude.{nat_le}
use Rattle.std.proofs.lemmas.Bool.{ne_eqb}
use Rattle.std.specs.List.{Contains, list_any}
use Rattle.std.specs.Option.{is_some}
use Rattle.std.specs.Ordering.{eq_by_cmp}
use Rattle.keyed.specs.EntryLaws.{contains_at}
use Rattle.keyed.specs.ListLaws.{any_true, true_any}
use Rattle.keyed.specs.Members.{contains_first, contains_none, contains_filter, contains_map, filter_contains, map_contains}
use Rattle.net_types.specs.declared.table.HostKey.{HostKey}
use Rattle.net_types.specs.declared.table.RouteKey.{RouteKey}
use Rattle.net_types.specs.KeyOrder.{group_cmp, route_cmp, route_order}
use Rattle.switch_model.specs.declared.record.FibEntry.{FibEntry}
use Rattle.switch_model.specs.Fib.{fibs}
use Rattle.switch_model.specs.PlainState.{PlainState, rib, neighbor_at}
use Rattle.switch_model.specs.Rows.{forward_hosts, neighbor_of_host}
use Rattle.row_laws.specs.Hops.{is_group_by_hop, is_host_by_hop}
use Rattle.row_laws.specs.RowAt.{entry_hosts, fibs_of, forwards_to, hosts_at, is_forward_to, is_group, is_host}
use Rattle.row_laws.proofs.Tests.{one_truth}
use Rattle.row_laws.proofs.AtLaws.{fibs_ascend, forward_is, host_forwards}

filled : {A : Type 0} (xs : List A) (x : A) → Contains xs x → not (length xs == 0) ≡ true
filled [] x has = absurd (contains_none x has)
filled (y ∷ ys) x has = ap not (ne_eqb (suc (length ys)) 0 (λ e. omega arith))

emptied : not (0 == 0) ≡ true → ⊥
emptied e = cc

first_of : {A : Type 0} (xs : List A) → not (length xs == 0) ≡ true → (x : A) × Contains xs x
first_of [] e = absurd (emptied e)
first_of (x ∷ xs) e = (x, contains_first x xs)

-- an entry that a key of the host has
module _ (m : PlainState) (host : HostKey) where
  abbrev test : RouteKey × FibEntry → Bool
  test e = forwards_to host e.1

  listed_key : (e : RouteKey × FibEntry) → Contains (fibs (rib m)) e → forwards_to host e.1 ≡ true → Contains (fibs_of m host) e.0
  listed_key e has holds = map_contains (λ (x : RouteKey × FibEntry). x.0) (filter test (fibs (rib m))) e (filter_contains test (fibs (rib m)) e has holds)

  key_entry : (key : RouteKey) → Contains (fibs_of m host) key → (entry : FibEntry) × Contains (fibs (rib m)) (key, entry) × (forwards_to host entry ≡ true)
  key_entry key has =
      let e = contains_map (λ (x : RouteKey × FibEntry). x.0) (filter test (fibs (rib m))) key has in
      let both = contains_filter test (fibs (rib m)) e.0 e.1 in
      (e.0.1, subst (λ (k : RouteKey). Contains (fibs (rib m)) (k, e.0.1)) e.2 both.0, both.1)

  hop_same : list_any (λ e. forwards_to host e.1) (fibs (rib m)) ≡ not (length (fibs_of m host) == 0)
  hop_same = one_truth (list_any (λ e. forwards_to host e.1) (fibs (rib m))) (not (length (fibs_of m host) == 0))
      (λ holds. let found = any_true test (fibs (rib m)) holds in filled (fibs_of m host) found.0.0 (listed_key found.0 found.1 found.2))
      (λ holds. let first = first_of (fibs_of m host) holds in let e = key_entry first.0 first.1 in true_any test (fibs (rib m)) (first.0, e.0) e.1 e.2)

  at_key : (e : RouteKey × FibEntry) → Contains (fibs (rib m)) e → hosts_at m e.0 ≡ forward_hosts e.1
  at_key e has = ap entry_hosts (contains_at route_cmp route_order e (fibs (rib m)) (fibs_ascend m) has)

  group_same : (hosts : List HostKey) → list_any (λ e. is_forward_to (host ∷ hosts) e.1) (fibs (rib m)) ≡ list_any (λ key. eq_by_cmp group_cmp (host ∷ hosts) (hosts_at m key)) (fibs_of m host)
  group_same hosts =
      let all : List HostKey = host ∷ hosts in
      one_truth (list_any (λ e. is_forward_to all e.1) (fibs (rib m))) (list_any (λ key. eq_by_cmp group_cmp all (hosts_at m key)) (fibs_of m host))
      (λ holds.
      let found = any_true (λ (e : RouteKey × FibEntry). is_forward_to all e.1) (fibs (rib m)) holds in
      let member : Contains (forward_hosts found.0.1) host = subst (λ (l : List HostKey). Contains l host) (forward_is all found.0.1 found.2) (contains_first host hosts) in
      true_any (λ key. eq_by_cmp group_cmp all (hosts_at m key)) (fibs_of m host) found.0.0 (listed_key found.0 found.1 (host_forwards host found.0.1 member)) (ap (eq_by_cmp group_cmp all) (at_key found.0 found.1) ∙ found.2))
      (λ holds.
      let found = any_true (λ key. eq_by_cmp group_cmp all (hosts_at m key)) (fibs_of m host) holds in
      let e = key_entry found.0 found.1 in
      true_any (λ (e : RouteKey × FibEntry). is_forward_to all e.1) (fibs (rib m)) (found.0, e.0) e.1 (sym (ap (eq_by_cmp group_cmp all) (at_key (found.0, e.0) e.1)) ∙ found.2))

pub host_by_hop : (m : PlainState) (host : HostKey) → is_host m host ≡ is_host_by_hop m host
host_by_hop m host = ap (λ (b : Bool). is_some (neighbor_at m (neighbor_of_host host)) || b) (hop_same m host)

pub group_by_hop : (m : PlainState) (hosts : List HostKey) → is_group m hosts ≡ is_group_by_hop m hosts
group_by_hop m [] = refl
group_by_hop m (host ∷ hosts) = ap (λ (b : Bool). nat_le 2 (length (host ∷ hosts)) && b) (group_same m host hosts)
