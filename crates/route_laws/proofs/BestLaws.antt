-- The keys that have a best route are those that are listed.
use Rattle.std.proofs.Common.{◌≡◌, ◌↔◌, ℕ, true, Option, None, Some, List, [], ◌∷◌, ◌++◌, ◌⊎◌, ◌==◌, ◌&&◌, map, refl, sym, ap, ◌∙◌, subst, inl, inr}
use Rattle.std.specs.List.{Contains, list_any, find, flat_map, reduce}
use Rattle.std.specs.List.Sorted.{IsStrictlySortedBy}
use Rattle.std.specs.Option.{IsSome}
use Rattle.std.proofs.lemmas.Bool.{and_parts, and_from}
use Rattle.std.proofs.lemmas.Bool.Decides.{Decides-eqb}
use Rattle.std.proofs.lemmas.List.Elements.{Contains-append_left, Contains-append_right, Contains-append_cases}
use Rattle.keyed.specs.Members.{contains_first, contains_none, contains_map, map_contains, contains_filter, filter_contains, contains_flat_map, flat_map_contains}
use Rattle.keyed.specs.SetLaws.{ascends-set_of, set_of_contains, contains_set_of}
use Rattle.net_types.specs.declared.table.RouteKey.{RouteKey}
use Rattle.net_types.specs.Cidr.{Cidr}
use Rattle.net_types.specs.KeyOrder.{route_cmp, route_order}
use Rattle.switch_model.specs.declared.key.RibKey.{RibKey}
use Rattle.switch_model.specs.declared.record.IntfRec.{IntfRec}
use Rattle.switch_model.specs.declared.record.RouteRec.{RouteRec}
use Rattle.switch_model.specs.Addresses.{same_addr, subnets}
use Rattle.switch_model.specs.BestRoute.{best, connected_first, connected_to, has_subnet_in, nearer, routes_to}
use Rattle.switch_model.specs.LongestMatch.{best_keys, connected_keys, routed_key}
use Rattle.switch_model.specs.PlainState.{Rib}
use Rattle.route_laws.proofs.Finds.{find_some, some_find, any_has, has_any, map_some, some_map, same_addr-is, same_addr-refl}

-- of a connected prefix or of a route
best_connected : (c : Option ℕ) (r : Option (RibKey × RouteRec)) → IsSome c → IsSome (connected_first c r)
best_connected None r some = absurd (cc)
best_connected (Some intf) r some = refl

best_routed : (c : Option ℕ) (r : Option (RibKey × RouteRec)) → IsSome r → IsSome (connected_first c r)
best_routed (Some intf) r some = refl
best_routed None None some = absurd (cc)
best_routed None (Some e) some = refl

best_cases : (c : Option ℕ) (r : Option (RibKey × RouteRec)) → IsSome (connected_first c r) → IsSome c ⊎ IsSome r
best_cases (Some intf) r some = inl refl
best_cases None None some = absurd (cc)
best_cases None (Some e) some = inr refl

reduce_some : {A : Type 0} (f : A → A → A) (xs : List A) (x : A) → Contains xs x → IsSome (reduce f xs)
reduce_some f [] x has = absurd (contains_none x has)
reduce_some f (y ∷ ys) x has = refl

some_reduce : {A : Type 0} (f : A → A → A) (xs : List A) → IsSome (reduce f xs) → (x : A) × Contains xs x
some_reduce f [] some = absurd (cc)
some_reduce f (y ∷ ys) some = (y, contains_first y ys)

-- a subnet of an interface
pub connected_has : (rib : Rib) (key : RouteKey) → Contains (flat_map connected_keys rib.intfs) key → IsSome (connected_to rib key.vrf key.prefix)
connected_has rib key has =
    let of_intf = contains_flat_map connected_keys rib.intfs key has in
    let e : ℕ × IntfRec = of_intf.0 in
    let of_subnet = contains_map (λ prefix. record { vrf = e.1.vrf; prefix = prefix }) (subnets e.1.addrs) key of_intf.2 in
    let vrf : e.1.vrf ≡ key.vrf = ap (λ (k : RouteKey). k.vrf) of_subnet.2 in
    let prefix : of_subnet.0 ≡ key.prefix = ap (λ (k : RouteKey). k.prefix) of_subnet.2 in
    let P : Cidr → Type 0 = λ p. same_addr key.prefix p ≡ true in
    let there : list_any (same_addr key.prefix) (subnets e.1.addrs) ≡ true = has_any (same_addr key.prefix) (subnets e.1.addrs) of_subnet.0 of_subnet.1 (subst P (sym prefix) (same_addr-refl key.prefix)) in
    map_some (λ (x : ℕ × IntfRec). x.0) (find (has_subnet_in key.vrf key.prefix) rib.intfs)
    (find_some (has_subnet_in key.vrf key.prefix) rib.intfs e of_intf.1 (and_from (e.1.vrf == key.vrf) (list_any (same_addr key.prefix) (subnets e.1.addrs)) ((Decides-eqb e.1.vrf key.vrf).1 vrf) there))

pub has_connected : (rib : Rib) (key : RouteKey) → IsSome (connected_to rib key.vrf key.prefix) → Contains (flat_map connected_keys rib.intfs) key
has_connected rib key some =
    let found = some_find (has_subnet_in key.vrf key.prefix) rib.intfs (some_map (λ (x : ℕ × IntfRec). x.0) (find (has_subnet_in key.vrf key.prefix) rib.intfs) some) in
    let e : ℕ × IntfRec = found.0 in
    let parts = and_parts (e.1.vrf == key.vrf) (list_any (same_addr key.prefix) (subnets e.1.addrs)) found.2 in
    let vrf : e.1.vrf ≡ key.vrf = (Decides-eqb e.1.vrf key.vrf).0 parts.0 in
    let subnet = any_has (same_addr key.prefix) (subnets e.1.addrs) parts.1 in
    let prefix : key.prefix ≡ subnet.0 = same_addr-is key.prefix subnet.0 subnet.2 in
    let as_key : Cidr → RouteKey = λ p. record { vrf = e.1.vrf; prefix = p } in
    let is : as_key subnet.0 ≡ key = ap (λ (p : Cidr). as_key p) (sym prefix) ∙ ap (λ (v : ℕ). record key { vrf = v }) vrf in
    let P : RouteKey → Type 0 = λ k. Contains (connected_keys e) k in
    flat_map_contains connected_keys rib.intfs e key found.1 (subst P is (map_contains as_key (subnets e.1.addrs) subnet.0 subnet.1))

-- the prefix of a route
pub routed_has : (rib : Rib) (key : RouteKey) → Contains (map routed_key rib.routes) key → IsSome (reduce nearer (routes_to rib key.vrf key.prefix))
routed_has rib key has =
    let of_route = contains_map routed_key rib.routes key has in
    let e : RibKey × RouteRec = of_route.0 in
    let vrf : e.0.vrf ≡ key.vrf = ap (λ (k : RouteKey). k.vrf) of_route.2 in
    let prefix : e.0.prefix ≡ key.prefix = ap (λ (k : RouteKey). k.prefix) of_route.2 in
    let P : Cidr → Type 0 = λ p. same_addr key.prefix p ≡ true in
    let passes = and_from (e.0.vrf == key.vrf) (same_addr key.prefix e.0.prefix) ((Decides-eqb e.0.vrf key.vrf).1 vrf) (subst P (sym prefix) (same_addr-refl key.prefix)) in
    reduce_some nearer (routes_to rib key.vrf key.prefix) e (filter_contains (λ x. (x.0.vrf == key.vrf) && same_addr key.prefix x.0.prefix) rib.routes e of_route.1 passes)

pub has_routed : (rib : Rib) (key : RouteKey) → IsSome (reduce nearer (routes_to rib key.vrf key.prefix)) → Contains (map routed_key rib.routes) key
has_routed rib key some =
    let first = some_reduce nearer (routes_to rib key.vrf key.prefix) some in
    let e : RibKey × RouteRec = first.0 in
    let found = contains_filter (λ x. (x.0.vrf == key.vrf) && same_addr key.prefix x.0.prefix) rib.routes e first.1 in
    let parts = and_parts (e.0.vrf == key.vrf) (same_addr key.prefix e.0.prefix) found.1 in
    let vrf : e.0.vrf ≡ key.vrf = (Decides-eqb e.0.vrf key.vrf).0 parts.0 in
    let prefix : key.prefix ≡ e.0.prefix = same_addr-is key.prefix e.0.prefix parts.1 in
    let is : routed_key e ≡ key = ap (λ (p : Cidr). record (routed_key e) { prefix = p }) (sym prefix) ∙ ap (λ (v : ℕ). record key { vrf = v }) vrf in
    let P : RouteKey → Type 0 = λ k. Contains (map routed_key rib.routes) k in
    subst P is (map_contains routed_key rib.routes e found.0)

-- both
pub best_keys-has : (rib : Rib) (key : RouteKey) → Contains (best_keys rib) key → IsSome (best rib key.vrf key.prefix)
best_keys-has rib key has = elim (Contains-append_cases (flat_map connected_keys rib.intfs) (map routed_key rib.routes) key (contains_set_of route_cmp route_order (flat_map connected_keys rib.intfs ++ map routed_key rib.routes) key has)) [
  | inl here ↦ best_connected (connected_to rib key.vrf key.prefix) (reduce nearer (routes_to rib key.vrf key.prefix)) (connected_has rib key here)
  | inr there ↦ best_routed (connected_to rib key.vrf key.prefix) (reduce nearer (routes_to rib key.vrf key.prefix)) (routed_has rib key there)
]

pub has-best_keys : (rib : Rib) (key : RouteKey) → IsSome (best rib key.vrf key.prefix) → Contains (best_keys rib) key
has-best_keys rib key some = set_of_contains route_cmp route_order (flat_map connected_keys rib.intfs ++ map routed_key rib.routes) key
    (elim (best_cases (connected_to rib key.vrf key.prefix) (reduce nearer (routes_to rib key.vrf key.prefix)) some) [
      | inl c ↦ Contains-append_left (flat_map connected_keys rib.intfs) (map routed_key rib.routes) key (has_connected rib key c)
      | inr r ↦ Contains-append_right (flat_map connected_keys rib.intfs) (map routed_key rib.routes) key (has_routed rib key r)
    ])

pub best_keys-exact : (rib : Rib) (key : RouteKey) → Contains (best_keys rib) key ↔ IsSome (best rib key.vrf key.prefix)
best_keys-exact rib key = (best_keys-has rib key, has-best_keys rib key)

pub best_keys-ascend : (rib : Rib) → IsStrictlySortedBy route_cmp (best_keys rib)
best_keys-ascend rib = ascends-set_of route_cmp route_order.total (flat_map connected_keys rib.intfs ++ map routed_key rib.routes)
