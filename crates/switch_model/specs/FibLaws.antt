-- An entry of the FIB by the ends that are reached, however they were found.
use Rattle.std.proofs.Common.{◌≡◌, ◌↔◌, ◌<◌, ℕ, zero, suc, Bool, true, false, Some, List, [], ◌∷◌, IsTrue, length, take, map, refl, sym, ap, ◌∙◌, subst, arith}
use Rattle.std.specs.List.{AllByRecursion, Contains, filter_map, list_any}
use Rattle.std.specs.List.Sorted.{IsStrictlySortedBy}
use Rattle.std.specs.declared.cmp.Ordering.{Ordering}
use Rattle.std.proofs.lemmas.List.{take-map}
use Rattle.std.proofs.lemmas.List.Folds.{Any-from_list_any, list_any-from_Any}
use Rattle.keyed.specs.Keyed.{IsKeyOrder}
use Rattle.keyed.specs.KeyedLaws.{by_order}
use Rattle.keyed.specs.Members.{contains_filter_map, filter_map_contains}
use Rattle.keyed.specs.SetLaws.{ascends-set_of, set_of_contains, contains_set_of, set_of_ascending, same_members}
use Rattle.keyed.specs.Sets.{insert, set_of}
use Rattle.net_types.specs.Cidr.{Cidr}
use Rattle.net_types.specs.KeyOrder.{hop_cmp, hop_order, host_cmp, host_order}
use Rattle.net_types.specs.declared.client.Client.{Client}
use Rattle.net_types.specs.declared.hop.Hop.{Hop}
use Rattle.net_types.specs.declared.table.HostKey.{HostKey}
use Rattle.switch_model.specs.declared.record.FibEntry.TheVariants.{Forward}
use Rattle.switch_model.specs.declared.record.RouteRec.TheVariants.{Hops}
use Rattle.switch_model.specs.BestRoute.{learnt, best}
use Rattle.switch_model.specs.Ends.{AreEnds}
use Rattle.switch_model.specs.Fib.{direct_of, direct_hosts, is_to_cpu, is_dropped, hop_of_host, entry_of_ends, fib_of_best, fib}
use Rattle.switch_model.specs.PlainState.{Rib}
use Rattle.switch_model.specs.Reach.{Lead, direct, onward, to_cpu, dropped, nothing, Reaches, reached_within}
use Rattle.switch_model.specs.ReachLaws.{reached-exact}

-- lists of the same keys have one set
set_of_same : {K : Type 0} (cmp : K → K → Ordering) → IsKeyOrder cmp → (xs ys : List K) → ((k : K) → Contains xs k ↔ Contains ys k) → set_of cmp xs ≡ set_of cmp ys
set_of_same cmp order xs ys members = same_members cmp order (set_of cmp xs) (set_of cmp ys) (ascends-set_of cmp order.total xs) (ascends-set_of cmp order.total ys)
    (λ k. ((λ has. set_of_contains cmp order ys k ((members k).0 (contains_set_of cmp order xs k has))), (λ has. set_of_contains cmp order xs k ((members k).1 (contains_set_of cmp order ys k has)))))

is_direct : (met : Lead) (host : HostKey) → direct_of met ≡ Some host → met ≡ direct host
is_direct (direct h) host is = let same : h ≡ host = cc in ap direct same
is_direct (onward p) host is = absurd (cc)
is_direct to_cpu host is = absurd (cc)
is_direct dropped host is = absurd (cc)
is_direct nothing host is = absurd (cc)

is_cpu : (met : Lead) → is_to_cpu met ≡ true → met ≡ to_cpu
is_cpu (direct h) is = absurd (cc)
is_cpu (onward p) is = absurd (cc)
is_cpu to_cpu is = refl
is_cpu dropped is = absurd (cc)
is_cpu nothing is = absurd (cc)

is_drop : (met : Lead) → is_dropped met ≡ true → met ≡ dropped
is_drop (direct h) is = absurd (cc)
is_drop (onward p) is = absurd (cc)
is_drop to_cpu is = absurd (cc)
is_drop dropped is = refl
is_drop nothing is = absurd (cc)

one_truth : (s t : Bool) → (s ≡ true → t ≡ true) → (t ≡ true → s ≡ true) → s ≡ t
one_truth true t there back = sym (there refl)
one_truth false true there back = back refl
one_truth false false there back = refl

-- a test that one value alone passes finds it where it stands
some_is : (test : Lead → Bool) (met : Lead) → test met ≡ true → ((x : Lead) → test x ≡ true → x ≡ met) → (mets : List Lead) (found : Bool) → (IsTrue found ↔ Contains mets met) → list_any test mets ≡ found
some_is test met passes only mets found is = one_truth (list_any test mets) found
    (λ yes. let at = Any-from_list_any test mets yes in let P : Lead → Type 0 = λ x. Contains mets x in is.1 (subst P (only at.1 at.4) (at.0, at.2, at.3)))
    (λ yes. let at = is.0 yes in list_any-from_Any test mets (at.0, met, at.1, at.2, passes))

hosts_same : (rib : Rib) (vrf : ℕ) (prefix : Cidr) (hosts : List HostKey) → ((host : HostKey) → Contains hosts host ↔ Reaches rib vrf prefix (direct host)) → direct_hosts (reached_within rib vrf (length rib.routes) prefix) ≡ set_of host_cmp hosts
hosts_same rib vrf prefix hosts is =
    let mets = reached_within rib vrf (length rib.routes) prefix in
    let P : Lead → Type 0 = λ x. Contains mets x in
    set_of_same host_cmp host_order (filter_map direct_of mets) hosts (λ host. (
      (λ has. let found = contains_filter_map direct_of mets host has in (is host).1 ((reached-exact rib vrf prefix (direct host)).0 (subst P (is_direct found.0 host found.2) found.1))),
      (λ has. filter_map_contains direct_of mets (direct host) host ((reached-exact rib vrf prefix (direct host)).1 ((is host).0 has)) refl),
    ))

end_same : (rib : Rib) (vrf : ℕ) (prefix : Cidr) (met : Lead) (test : Lead → Bool) → test met ≡ true → ((x : Lead) → test x ≡ true → x ≡ met) → (found : Bool) → (IsTrue found ↔ Reaches rib vrf prefix met) → list_any test (reached_within rib vrf (length rib.routes) prefix) ≡ found
end_same rib vrf prefix met test passes only found is = some_is test met passes only (reached_within rib vrf (length rib.routes) prefix) found (
  (λ yes. (reached-exact rib vrf prefix met).1 (is.0 yes)),
  (λ has. is.1 ((reached-exact rib vrf prefix met).0 has)),
)

-- the entry of a route with hops is that of the ends that it reaches
pub fib-by_ends : (rib : Rib) (vrf : ℕ) (prefix : Cidr) (client : Client) (hops : List Hop) (hosts : List HostKey) (cpu drop : Bool) → Some (learnt client (Hops hops)) ≡ best rib vrf prefix → AreEnds rib vrf prefix hosts cpu drop → entry_of_ends (take 64 (set_of host_cmp hosts)) cpu drop ≡ fib rib vrf prefix
fib-by_ends rib vrf prefix client hops hosts cpu drop is ends =
    let mets = reached_within rib vrf (length rib.routes) prefix in
    ap (λ (l : List HostKey). entry_of_ends (take 64 l) cpu drop) (sym (hosts_same rib vrf prefix hosts ends.by_host))
    ∙ ap (λ (b : Bool). entry_of_ends (take 64 (direct_hosts mets)) b drop) (sym (end_same rib vrf prefix to_cpu is_to_cpu refl is_cpu cpu ends.by_cpu))
    ∙ ap (λ (b : Bool). entry_of_ends (take 64 (direct_hosts mets)) (list_any is_to_cpu mets) b) (sym (end_same rib vrf prefix dropped is_dropped refl is_drop drop ends.by_drop))
    ∙ ap (fib_of_best rib vrf prefix) is

-- hosts are ordered as the hops to them
insert-hop_to : (host : HostKey) (hosts : List HostKey) → map hop_of_host (insert host_cmp host hosts) ≡ insert hop_cmp (hop_of_host host) (map hop_of_host hosts)
insert-hop_to host [] = refl
insert-hop_to host (h ∷ hs) = by_order (host_cmp host h) (λ o. rw o refl) (λ o. rw o refl) (λ o. rw o (ap (λ l. hop_of_host h ∷ l) (insert-hop_to host hs)))

pub set_of-hop_to : (hosts : List HostKey) → map hop_of_host (set_of host_cmp hosts) ≡ set_of hop_cmp (map hop_of_host hosts)
set_of-hop_to [] = refl
set_of-hop_to (h ∷ hs) = insert-hop_to h (set_of host_cmp hs) ∙ ap (insert hop_cmp (hop_of_host h)) (set_of-hop_to hs)

above_take : {K : Type 0} (cmp : K → K → Ordering) (k : K) (n : ℕ) (xs : List K) (P : K → Type 0) → AllByRecursion P xs → AllByRecursion P (take n xs)
above_take cmp k zero xs P all = tt
above_take cmp k (suc n) [] P all = tt
above_take cmp k (suc n) (x ∷ xs) P all = (all.0, above_take cmp k n xs P all.1)

ascends-take : {K : Type 0} (cmp : K → K → Ordering) (n : ℕ) (xs : List K) → IsStrictlySortedBy cmp xs → IsStrictlySortedBy cmp (take n xs)
unfolding IsStrictlySortedBy
ascends-take cmp zero xs asc = tt
ascends-take cmp (suc n) [] asc = tt
ascends-take cmp (suc n) (x ∷ xs) asc = (above_take cmp x n xs _ asc.0, ascends-take cmp n xs asc.1)

-- the first hosts, as hops, are the first of the set of hops
pub first-hops : (n : ℕ) (hosts : List HostKey) (all : List Hop) → all ≡ set_of hop_cmp (map hop_of_host hosts) → set_of hop_cmp (take n all) ≡ map hop_of_host (take n (set_of host_cmp hosts))
first-hops n hosts all is =
    let P : List Hop → Type 0 = λ l. IsStrictlySortedBy hop_cmp l in
    set_of_ascending hop_cmp hop_order.total (take n all) (ascends-take hop_cmp n all (subst P (sym is) (ascends-set_of hop_cmp hop_order.total (map hop_of_host hosts))))
    ∙ ap (take n) (is ∙ sym (set_of-hop_to hosts)) ∙ take-map hop_of_host n (set_of host_cmp hosts)

-- the entry where there is a host
forwards : (hosts : List HostKey) (cpu drop : Bool) → 0 < length hosts → Some (Forward (map hop_of_host hosts)) ≡ entry_of_ends hosts cpu drop
forwards [] cpu drop some = absurd (omega arith)
forwards (h ∷ hs) cpu drop some = refl

insert_some : (host : HostKey) (hosts : List HostKey) → 0 < length (take 64 (insert host_cmp host hosts))
insert_some host [] = omega arith
insert_some host (h ∷ hs) = by_order (host_cmp host h) (λ o. rw o (omega arith)) (λ o. rw o (omega arith)) (λ o. rw o (omega arith))

pub first-forward : (hosts : List HostKey) (cpu drop : Bool) → 0 < length hosts → Some (Forward (map hop_of_host (take 64 (set_of host_cmp hosts)))) ≡ entry_of_ends (take 64 (set_of host_cmp hosts)) cpu drop
first-forward [] cpu drop some = absurd (omega arith)
first-forward (h ∷ hs) cpu drop some = forwards (take 64 (set_of host_cmp (h ∷ hs))) cpu drop (insert_some h (set_of host_cmp hs))

pub none-forward : (hosts : List HostKey) (cpu drop : Bool) → length hosts ≡ 0 → entry_of_ends [] cpu drop ≡ entry_of_ends (take 64 (set_of host_cmp hosts)) cpu drop
none-forward [] cpu drop none = refl
none-forward (h ∷ hs) cpu drop none = absurd (omega arith)
