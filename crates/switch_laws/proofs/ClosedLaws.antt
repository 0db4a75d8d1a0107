-- The rows of a state whose parts are in order lead to rows that are there.
use Rattle.std.proofs.Common.{◌≡◌, ◌≤◌, ℕ, Bool, true, false, Option, None, Some, List, [], ◌∷◌, length, map, if◌then◌else◌, refl, sym, ap, ◌∙◌, subst, inl, inr, arith}
use Rattle.std.specs.Prelude.{nat_le, take}
use Rattle.std.specs.List.{Contains, list_any, find, filter_map, flat_map, reduce}
use Rattle.std.specs.Ordering.{nat_cmp}
use Rattle.std.specs.Option.{option_map, option_and_then, IsSome}
use Rattle.std.specs.List.Sorted.{IsStrictlySortedBy}
use Rattle.std.proofs.lemmas.Bool.{le-leb, leb-true}
use Rattle.std.proofs.lemmas.List.{length-map}
use Rattle.std.proofs.lemmas.List.Elements.{Contains-append_right}
use Rattle.keyed.specs.Keyed.{Ascends, at}
use Rattle.keyed.specs.KeyOrders.{nat_order}
use Rattle.keyed.specs.KeyedLaws.{at-with_values}
use Rattle.keyed.specs.Members.{contains_first, contains_cases, contains_none, contains_map, contains_filter_map, contains_flat_map, flat_map_contains}
use Rattle.keyed.specs.SetLaws.{contains_set_of, at-entries_at, ascends-entries_at, ascends-set_of}
use Rattle.keyed.specs.ValueLaws.{ascends-with_values}
use Rattle.keyed.specs.Cases.{some_is, none_some, mapped, some_there}
use Rattle.keyed.specs.EntryLaws.{at_contains, contains_at, entry_made}
use Rattle.keyed.specs.ListLaws.{all_of, contains_take, find_contains, length-take, sorted_take}
use Rattle.net_types.specs.declared.hop.Hop.{Hop}
use Rattle.net_types.specs.declared.ip.Ip.{Ip}
use Rattle.net_types.specs.declared.table.HopTarget.{HopTarget}
use Rattle.net_types.specs.declared.table.HostKey.{HostKey}
use Rattle.net_types.specs.declared.table.RouteKey.{RouteKey}
use Rattle.net_types.specs.Cidr.{Cidr}
use Rattle.net_types.specs.KeyOrder.{l2_cmp, host_cmp, host_order, group_cmp, group_order, route_cmp, route_order}
use Rattle.net_types.specs.Closed.{IsTargetKnown, IsClosed, AreGroups}
use Rattle.net_types.specs.Differ.{AscendRows}
use Rattle.switch_model.specs.declared.key.RibKey.{RibKey}
use Rattle.switch_model.specs.declared.record.FibEntry.{FibEntry}
use Rattle.switch_model.specs.declared.record.FibEntry.TheVariants.{Connected, Forward, ToCpu, Discard}
use Rattle.switch_model.specs.declared.record.IntfRec.{IntfRec}
use Rattle.switch_model.specs.declared.record.RouteRec.{RouteRec}
use Rattle.switch_model.specs.declared.record.RouteRec.TheVariants as kept
use Rattle.switch_model.specs.BestRoute.{BestRoute, connected, learnt, best, connected_first, connected_to, has_subnet_in, nearer, routes_to}
use Rattle.switch_model.specs.Fib.{direct_of, direct_hosts, is_to_cpu, is_dropped, hop_of_host, entry_of_ends, fib_of_best, fib, fibs}
use Rattle.switch_model.specs.LongestMatch.{best_keys, longest_match, matches, longer, with_best}
use Rattle.switch_model.specs.PlainState.{PlainState, ArePartsInOrder, Rib, rib, neighbor_at}
use Rattle.switch_model.specs.Reach.{Lead, direct, onward, to_cpu, dropped, nothing, lead_of_match, lead_over, leads_to, is_of_vrf, hops_of_best, reached_within}
use Rattle.switch_model.specs.ReachLaws.{reaches-from_reached}
use Rattle.switch_model.specs.Rows.{l2_row, host_of_hop, host_of_neighbor, host_act, host_row, neighbor_of_host, forward_hosts, hosts, group_of_hosts, groups, target_of_hosts, target_of_entry, live, rows}

-- an interface that a hop leads to is there
record IsIntfThere (l : List (ℕ × IntfRec)) (intf : ℕ) : Type 0 where
  value : IntfRec
  there : at nat_cmp intf l ≡ Some value

record Matched (found : Option (Cidr × BestRoute)) (intf : ℕ) : Type 0 where
  prefix : Cidr
  is : found ≡ Some (prefix, connected intf)

met_at_direct : (ip : Ip) (o : Option (Cidr × BestRoute)) (host : HostKey) → lead_of_match ip o ≡ direct host → Matched o host.intf
met_at_direct ip None host is = absurd (cc)
met_at_direct ip (Some (p, connected intf)) host is =
    let hosts : record { ip = ip; intf = intf } ≡ host = cc in
    let same : intf ≡ host.intf = ap (λ (h : HostKey). h.intf) hosts in record { prefix = p; is = ap (λ (n : ℕ). Some (p, connected n)) same }
met_at_direct ip (Some (p, learnt client (kept.Hops hops))) host is = absurd (cc)
met_at_direct ip (Some (p, learnt client kept.ToCpu)) host is = absurd (cc)
met_at_direct ip (Some (p, learnt client kept.Discard)) host is = absurd (cc)

with_best-is : (rib : Rib) (vrf : ℕ) (p prefix : Cidr) (route : BestRoute) (b : Option BestRoute) → option_map {U = Cidr × BestRoute} (λ r. (p, r)) b ≡ Some (prefix, route) → best rib vrf p ≡ b → best rib vrf prefix ≡ Some route
with_best-is rib vrf p prefix route None is found = absurd (cc)
with_best-is rib vrf p prefix route (Some r) is found =
    let pair : (p, r) ≡ (prefix, route) = cc in
    let first : p ≡ prefix = ap (λ (x : Cidr × BestRoute). x.0) pair in
    let second : r ≡ route = ap (λ (x : Cidr × BestRoute). x.1) pair in
    ap (λ (c : Cidr). best rib vrf c) (sym first) ∙ found ∙ ap Some second

longest-best : (rib : Rib) (vrf : ℕ) (key : Option RouteKey) (prefix : Cidr) (route : BestRoute) → option_and_then (λ k. with_best rib vrf k.prefix) key ≡ Some (prefix, route) → best rib vrf prefix ≡ Some route
longest-best rib vrf None prefix route is = absurd (cc)
longest-best rib vrf (Some k) prefix route is = with_best-is rib vrf k.prefix prefix route (best rib vrf k.prefix) is refl

best_as-connected : (o : Option ℕ) (r : Option (RibKey × RouteRec)) (intf : ℕ) → connected_first o r ≡ Some (connected intf) → o ≡ Some intf
best_as-connected (Some n) r intf is = let same : n ≡ intf = cc in ap Some same
best_as-connected None (Some e) intf is = absurd (cc)
best_as-connected None None intf is = absurd (cc)

module _ (r : Rib) (asc : Ascends nat_cmp r.intfs) where
  connected_there : (vrf : ℕ) (prefix : Cidr) (intf : ℕ) → best r vrf prefix ≡ Some (connected intf) → IsIntfThere r.intfs intf
  connected_there vrf prefix intf is =
      let by_subnet = best_as-connected (connected_to r vrf prefix) (reduce nearer (routes_to r vrf prefix)) intf is in
      let first = mapped (λ (e : ℕ × IntfRec). e.0) (find (has_subnet_in vrf prefix) r.intfs) intf by_subnet in
      let e : ℕ × IntfRec = first.0 in
      record { value = e.1; there = subst (λ (n : ℕ). at nat_cmp n r.intfs ≡ Some e.1) first.1.1 (contains_at nat_cmp nat_order e r.intfs asc (find_contains (has_subnet_in vrf prefix) r.intfs e first.1.0)) }

  of_vrf_there : (vrf intf : ℕ) (o : Option IntfRec) → at nat_cmp intf r.intfs ≡ o → is_of_vrf vrf o ≡ true → IsIntfThere r.intfs intf
  of_vrf_there vrf intf None is one = absurd (cc)
  of_vrf_there vrf intf (Some i) is one = record { value = i; there = is }

  by_intf : (b : Bool) (named host : HostKey) → (if b then direct named else nothing) ≡ direct host → (b ≡ true) × (named.intf ≡ host.intf)
  by_intf true named host is = let same : named ≡ host = cc in (refl, ap (λ (h : HostKey). h.intf) same)
  by_intf false named host is = absurd (cc)

  met_there : (vrf : ℕ) (ip : Ip) (intf : Option ℕ) (host : HostKey) → lead_over r vrf ip intf ≡ direct host → IsIntfThere r.intfs host.intf
  met_there vrf ip None host is =
      let found = met_at_direct ip (longest_match r vrf ip) host is in
      connected_there vrf found.prefix host.intf (longest-best r vrf (reduce longer (matches r vrf ip)) found.prefix (connected host.intf) found.is)
  met_there vrf ip (Some intf) host is =
      let found = by_intf (is_of_vrf vrf (at nat_cmp intf r.intfs)) (record { ip = ip; intf = intf }) host is in
      subst (λ (n : ℕ). IsIntfThere r.intfs n) found.1 (of_vrf_there vrf intf (at nat_cmp intf r.intfs) refl found.0)

  reached_there : (vrf n : ℕ) (prefix : Cidr) (host : HostKey) → Contains (reached_within r vrf n prefix) (direct host) → IsIntfThere r.intfs host.intf
  reached_there vrf n prefix host has =
      let chain = reaches-from_reached r vrf n prefix (direct host) has in
      let hop = contains_map (leads_to r vrf) (hops_of_best (best r vrf chain.last)) (direct host) chain.given in
      met_there vrf hop.0.ip hop.0.intf host hop.2

  direct_is : (met : Lead) (host : HostKey) → direct_of met ≡ Some host → met ≡ direct host
  direct_is (direct h) host is = ap direct (some_is is)
  direct_is (onward p) host is = absurd (none_some is)
  direct_is to_cpu host is = absurd (none_some is)
  direct_is dropped host is = absurd (none_some is)
  direct_is nothing host is = absurd (none_some is)

  -- hosts that a prefix's chains reach
  ends_there : (vrf n : ℕ) (prefix : Cidr) (host : HostKey) → Contains (take 64 (direct_hosts (reached_within r vrf n prefix))) host → IsIntfThere r.intfs host.intf
  ends_there vrf n prefix host has =
      let mets : List Lead = reached_within r vrf n prefix in
      let among = contains_set_of host_cmp host_order (filter_map direct_of mets) host (contains_take 64 (direct_hosts mets) host has) in
      let met = contains_filter_map direct_of mets host among in
      reached_there vrf n prefix host (subst (λ (x : Lead). Contains mets x) (direct_is met.0 host met.2) met.1)

-- the hosts of an entry that forwards
hosts_again : (hosts : List HostKey) → filter_map host_of_hop (map hop_of_host hosts) ≡ hosts
hosts_again [] = refl
hosts_again (h ∷ hs) = ap (λ l. h ∷ l) (hosts_again hs)

record Forwards (hops : List Hop) (hosts : List HostKey) : Type 0 where
  first : HostKey
  more : List HostKey
  are : hosts ≡ first ∷ more
  hops_are : hops ≡ map hop_of_host hosts

end_forward : (hosts : List HostKey) (cpu drop : Bool) (hops : List Hop) → entry_of_ends hosts cpu drop ≡ Some (Forward hops) → Forwards hops hosts
end_forward (h ∷ hs) cpu drop hops is = let same : map hop_of_host (h ∷ hs) ≡ hops = cc in record { first = h; more = hs; are = refl; hops_are = sym same }
end_forward [] true drop hops is = absurd (cc)
end_forward [] false true hops is = absurd (cc)
end_forward [] false false hops is = absurd (cc)

fib_forward : (r : Rib) (vrf : ℕ) (prefix : Cidr) (o : Option BestRoute) (hops : List Hop) → fib_of_best r vrf prefix o ≡ Some (Forward hops) → Forwards hops (take 64 (direct_hosts (reached_within r vrf (length r.routes) prefix)))
fib_forward r vrf prefix None hops is = absurd (cc)
fib_forward r vrf prefix (Some (connected intf)) hops is = absurd (cc)
fib_forward r vrf prefix (Some (learnt client kept.ToCpu)) hops is = absurd (cc)
fib_forward r vrf prefix (Some (learnt client kept.Discard)) hops is = absurd (cc)
fib_forward r vrf prefix (Some (learnt client (kept.Hops hs))) hops is =
    let mets : List Lead = reached_within r vrf (length r.routes) prefix in
    end_forward (take 64 (direct_hosts mets)) (list_any is_to_cpu mets) (list_any is_dropped mets) hops is

module _ (m : PlainState) (asc : Ascends nat_cmp m.intfs) where
  -- an entry that forwards to hosts: there is one, and the interface of each is there
  record ForwardsTo (key : RouteKey) (hops : List Hop) : Type 0 where
    first : HostKey
    more : List HostKey
    are : filter_map host_of_hop hops ≡ first ∷ more
    there : (host : HostKey) → Contains (filter_map host_of_hop hops) host → IsIntfThere m.intfs host.intf

  forwards : (key : RouteKey) (hops : List Hop) → at route_cmp key (fibs (rib m)) ≡ Some (Forward hops) → ForwardsTo key hops
  forwards key hops is =
      let made = entry_made route_cmp route_order (λ k. fib (rib m) k.vrf k.prefix) key (Forward hops) (best_keys (rib m)) is in
      let ends = fib_forward (rib m) key.vrf key.prefix (best (rib m) key.vrf key.prefix) hops made.0 in
      let all : List HostKey = take 64 (direct_hosts (reached_within (rib m) key.vrf (length m.routes) key.prefix)) in
      let same : filter_map host_of_hop hops ≡ all = ap (filter_map host_of_hop) ends.hops_are ∙ hosts_again all in
      record {
        first = ends.first;
        more = ends.more;
        are = same ∙ ends.are;
        there = λ host has. ends_there (rib m) asc key.vrf (length m.routes) key.prefix host (subst (λ (l : List HostKey). Contains l host) same has);
      }

  -- so each such host has a row
  host_there : (key : RouteKey) (entry : FibEntry) → at route_cmp key (fibs (rib m)) ≡ Some entry → (host : HostKey) → Contains (forward_hosts entry) host → IsSome (at host_cmp host (rows m).host)
  host_there key (Connected intf) is host has = absurd (contains_none host has)
  host_there key ToCpu is host has = absurd (contains_none host has)
  host_there key Discard is host has = absurd (contains_none host has)
  host_there key (Forward hops) is host has =
      let intf = (forwards key hops is).there host has in
      let listed = Contains-append_right (map (λ e. host_of_neighbor e.0) m.neighbors) (flat_map (λ e. forward_hosts e.1) (fibs (rib m))) host (flat_map_contains (λ e. forward_hosts e.1) (fibs (rib m)) (key, Forward hops) host (at_contains route_cmp route_order key (Forward hops) (fibs (rib m)) is) has) in
      let row : host_row m host ≡ Some (record { vrf = intf.value.vrf; act = host_act m (neighbor_at m (neighbor_of_host host)) }) = rw intf.there refl in
      some_there _ _ (at-entries_at host_cmp host_order (host_row m) host (hosts m) listed ∙ row)

  -- a group is the hosts of an entry
  as_group-is : (b : Bool) (all hosts : List HostKey) → Contains (if b then all ∷ [] else []) hosts → hosts ≡ all
  as_group-is true all hosts has = elim (contains_cases all [] hosts has) [ inl is ↦ is | inr rest ↦ absurd (contains_none hosts rest) ]
  as_group-is false all hosts has = absurd (contains_none hosts has)

  group_closed : (keys : List HostKey) (marks : List Bool) → at group_cmp keys (rows m).group ≡ Some marks → (host : HostKey) → Contains keys host → IsSome (at host_cmp host (rows m).host)
  group_closed keys marks is host has =
      let made = entry_made group_cmp group_order (λ hosts. Some (map (live m) hosts)) keys marks (groups m) is in
      let entry = contains_flat_map (λ e. group_of_hosts (forward_hosts e.1)) (fibs (rib m)) keys made.1 in
      let same : keys ≡ forward_hosts entry.0.1 = as_group-is (nat_le 2 (length (forward_hosts entry.0.1))) (forward_hosts entry.0.1) keys entry.2 in
      let at_it = contains_at route_cmp route_order entry.0 (fibs (rib m)) (ascends-entries_at route_cmp route_order (λ k. fib (rib m) k.vrf k.prefix) (best_keys (rib m))) entry.1 in
      host_there entry.0.0 entry.0.1 at_it host (subst (λ (l : List HostKey). Contains l host) same has)

  target_there : (key : RouteKey) (hops : List Hop) (is : at route_cmp key (fibs (rib m)) ≡ Some (Forward hops)) (list : List HostKey) (first : HostKey) (more : List HostKey) → list ≡ first ∷ more → filter_map host_of_hop hops ≡ list → IsTargetKnown (rows m) (target_of_hosts list)
  target_there key hops is [] first more are same = absurd (cc)
  target_there key hops is (x ∷ []) first more are same = host_there key (Forward hops) is x (subst (λ (l : List HostKey). Contains l x) (sym same) (contains_first x []))
  target_there key hops is (x ∷ y ∷ rest) first more are same =
      let all : List HostKey = x ∷ y ∷ rest in
      let several : nat_le 2 (length all) ≡ true = le-leb 2 (length all) (omega arith) in
      let one : Contains (group_of_hosts all) all = rw several (contains_first all []) in
      let of_entry : Contains (group_of_hosts (forward_hosts (Forward hops))) all = subst (λ (l : List HostKey). Contains (group_of_hosts l) all) (sym same) one in
      let listed = flat_map_contains (λ e. group_of_hosts (forward_hosts e.1)) (fibs (rib m)) (key, Forward hops) all (at_contains route_cmp route_order key (Forward hops) (fibs (rib m)) is) of_entry in
      some_there _ _ (at-entries_at group_cmp group_order (λ hosts. Some (map (live m) hosts)) all (groups m) listed)

  route_closed_by : (key : RouteKey) (entry : FibEntry) → at route_cmp key (fibs (rib m)) ≡ Some entry → IsTargetKnown (rows m) (target_of_entry entry)
  route_closed_by key (Connected intf) is = tt
  route_closed_by key ToCpu is = tt
  route_closed_by key Discard is = tt
  route_closed_by key (Forward hops) is = let to = forwards key hops is in target_there key hops is (filter_map host_of_hop hops) to.first to.more to.are refl

  pub closed : IsClosed (rows m)
  closed = record {
    group = λ keys marks is. all_of (λ (key : HostKey). IsSome (at host_cmp key (rows m).host)) keys (group_closed keys marks is);
    route = record {
      each = λ key target is.
          let of_entry = mapped target_of_entry (at route_cmp key (fibs (rib m))) target (sym (at-with_values route_cmp route_order target_of_entry key (fibs (rib m))) ∙ is) in
          subst (λ (t : HopTarget). IsTargetKnown (rows m) t) of_entry.1.1 (route_closed_by key of_entry.0 of_entry.1.0);
    };
  }

pub rows-closed : (m : PlainState) → ArePartsInOrder m → IsClosed (rows m)
rows-closed m in_order = closed m in_order.intfs

-- tables ascend where the stations do
pub rows-ascend : (m : PlainState) → ArePartsInOrder m → AscendRows (rows m)
rows-ascend m in_order = record {
  l2 = ascends-with_values l2_cmp (l2_row m) m.macs in_order.macs;
  host = ascends-entries_at host_cmp host_order (host_row m) (hosts m);
  group = ascends-entries_at group_cmp group_order (λ hosts. Some (map (live m) hosts)) (groups m);
  route = ascends-with_values route_cmp target_of_entry (fibs (rib m)) (ascends-entries_at route_cmp route_order (λ k. fib (rib m) k.vrf k.prefix) (best_keys (rib m)));
}

-- groups, of any state
record IsEnds (hosts : List HostKey) : Type 0 where
  few : length hosts ≤ 64
  ascend : IsStrictlySortedBy host_cmp hosts

no_ends : IsEnds []
no_ends = record { few = omega arith; ascend = ascends-set_of host_cmp host_order.total [] }

entry_ends : (m : PlainState) (key : RouteKey) (entry : FibEntry) → fib (rib m) key.vrf key.prefix ≡ Some entry → IsEnds (forward_hosts entry)
entry_ends m key (Connected intf) is = no_ends
entry_ends m key ToCpu is = no_ends
entry_ends m key Discard is = no_ends
entry_ends m key (Forward hops) is =
    let mets : List Lead = reached_within (rib m) key.vrf (length m.routes) key.prefix in
    let ends = fib_forward (rib m) key.vrf key.prefix (best (rib m) key.vrf key.prefix) hops is in
    let same : filter_map host_of_hop hops ≡ take 64 (direct_hosts mets) = ap (filter_map host_of_hop) ends.hops_are ∙ hosts_again (take 64 (direct_hosts mets)) in
    let those : IsEnds (take 64 (direct_hosts mets)) = record { few = length-take 64 (direct_hosts mets); ascend = sorted_take host_cmp 64 (direct_hosts mets) (ascends-set_of host_cmp host_order.total (filter_map direct_of mets)) } in
    subst (λ (l : List HostKey). IsEnds l) (sym same) those

several : (b : Bool) (all hosts : List HostKey) → nat_le 2 (length all) ≡ b → Contains (if b then all ∷ [] else []) hosts → (2 ≤ length all) × (hosts ≡ all)
several true all hosts is has = (leb-true 2 (length all) is, elim (contains_cases all [] hosts has) [ inl same ↦ same | inr rest ↦ absurd (contains_none hosts rest) ])
several false all hosts is has = absurd (contains_none hosts has)

pub rows-groups : (m : PlainState) → AreGroups (rows m)
rows-groups m = record {
  every = λ keys marks is.
      let made = entry_made group_cmp group_order (λ hosts. Some (map (live m) hosts)) keys marks (groups m) is in
      let entry = contains_flat_map (λ e. group_of_hosts (forward_hosts e.1)) (fibs (rib m)) keys made.1 in
      let all : List HostKey = forward_hosts entry.0.1 in
      let group = several (nat_le 2 (length all)) all keys refl entry.2 in
      let at_it = contains_at route_cmp route_order entry.0 (fibs (rib m)) (ascends-entries_at route_cmp route_order (λ k. fib (rib m) k.vrf k.prefix) (best_keys (rib m))) entry.1 in
      let of_fib = (entry_made route_cmp route_order (λ k. fib (rib m) k.vrf k.prefix) entry.0.0 entry.0.1 (best_keys (rib m)) at_it).0 in
      let ends = entry_ends m entry.0.0 entry.0.1 of_fib in
      let marked : length marks ≡ length keys = ap length (sym (some_is made.0)) ∙ length-map keys (live m) in
      record {
        size = (subst (λ (l : List HostKey). 2 ≤ length l) (sym group.1) group.0, subst (λ (l : List HostKey). length l ≤ 64) (sym group.1) ends.few);
        ascends = subst (λ (l : List HostKey). IsStrictlySortedBy host_cmp l) (sym group.1) ends.ascend;
        marked = marked;
      };
}
