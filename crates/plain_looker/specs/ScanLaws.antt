-- What scans find.
use Rattle.std.proofs.Common.{◌≡◌, ◌+◌, ◌<◌, ℕ, Bool, true, false, Option, None, Some, List, [], ◌∷◌, ◌++◌, ◌==◌, nat_lt, length, get_or, take, map, if◌then◌else◌, append-nil, refl, sym, ap, ◌∙◌}
use Rattle.std.specs.List.{AllByRecursion, filter, flat_map, fold, reduce}
use Rattle.std.specs.List.Sorted.{IsStrictlySortedBy}
use Rattle.std.specs.Ordering.{nat_cmp, ordering_then, ordering_reverse, is_lt}
use Rattle.std.specs.declared.cmp.Ordering.{Ordering}
use Rattle.std.specs.declared.cmp.Ordering.TheVariants.{Less, Equal, Greater}
use Rattle.std.proofs.lemmas.Bool.{cond_both}
use Rattle.std.proofs.lemmas.List.{take_more, map-append}
use Rattle.std.proofs.lemmas.List.Concat.{flat_map-append}
use Rattle.std.proofs.lemmas.List.Elements.{filter-append}
use Rattle.std.proofs.lemmas.Cmp.{nat_cmp_total, on_total, then_total, back_total}
use Rattle.keyed.specs.Keyed.{IsKeyOrder}
use Rattle.keyed.specs.KeyOrders.{then-exact}
use Rattle.keyed.specs.Least.{lesser, passing, least_of}
use Rattle.keyed.specs.LeastLaws.{lesser_none, lesser_assoc, least_of-append, least_of-same}
use Rattle.keyed.specs.SetLaws.{ascends-set_of, set_of_contains, contains_set_of}
use Rattle.keyed.specs.Sets.{set_of}
use Rattle.net_types.specs.declared.table.RouteKey.{RouteKey}
use Rattle.net_types.specs.KeyOrder.{route_cmp, route_order}
use Rattle.net_types.specs.Cidr.{Cidr}
use Rattle.net_types.specs.Prefix.{subnet_of}
use Rattle.switch_model.specs.declared.key.RibKey.{RibKey}
use Rattle.switch_model.specs.declared.record.IntfRec.{IntfRec}
use Rattle.switch_model.specs.declared.record.RouteRec.{RouteRec}
use Rattle.switch_model.specs.Addresses.{has_subnet}
use Rattle.switch_model.specs.LongestMatch.{longer, connected_keys, routed_key}
use Rattle.plain_looker.specs.Scan.{longest_cmp, key_in, subnet_keys}

pub longest_order : IsKeyOrder longest_cmp
longest_order = record {
  total = then_total (back_total (on_total (λ (k : RouteKey). k.prefix.len) nat_cmp_total)) route_order.total;
  exact = λ x y h. route_order.exact x y (then-exact (nat_cmp y.prefix.len x.prefix.len) (route_cmp x y) h).1;
}

-- of two keys in their order the longer one is the lesser one with the longest first
by_len : (lt eq : Bool) (a b : RouteKey) → Some (if lt then b else a) ≡ (if is_lt (ordering_then (if lt then Less else (if eq then Equal else Greater)) Greater) then Some b else Some a)
by_len true eq a b = refl
by_len false true a b = refl
by_len false false a b = refl

longer-lesser : (a b : RouteKey) → route_cmp a b ≡ Less → Some (longer a b) ≡ lesser longest_cmp (Some a) (Some b)
longer-lesser a b h =
    let turned : route_cmp b a ≡ Greater = route_order.total.antisymm b a ∙ ap ordering_reverse h in
    rw turned (by_len (nat_lt a.prefix.len b.prefix.len) (a.prefix.len == b.prefix.len) a b)

longer_before : (a b : RouteKey) (ks : List RouteKey) → AllByRecursion (λ y. route_cmp a y ≡ Less) ks → AllByRecursion (λ y. route_cmp b y ≡ Less) ks → AllByRecursion (λ y. route_cmp (longer a b) y ≡ Less) ks
longer_before a b ks before_a before_b = cond_both (nat_lt a.prefix.len b.prefix.len) b a (λ k. AllByRecursion (λ y. route_cmp k y ≡ Less) ks) (λ _. before_b) (λ _. before_a)

module _ (test : RouteKey → Bool) where
  folded : (a : RouteKey) (ks : List RouteKey) → AllByRecursion (λ y. route_cmp a y ≡ Less) ks → IsStrictlySortedBy route_cmp ks → Some (fold longer a (filter test ks)) ≡ lesser longest_cmp (Some a) (least_of longest_cmp test ks)
  unfolding IsStrictlySortedBy
  folded a [] before asc = refl
  folded a (k ∷ ks) before asc = cond_both (test k) (k ∷ filter test ks) (filter test ks) (λ l. Some (fold longer a l) ≡ lesser longest_cmp (Some a) (lesser longest_cmp (passing test k) (least_of longest_cmp test ks)))
      (λ yes. rw yes (folded (longer a k) ks (longer_before a k ks before.1 asc.0) asc.1 ∙ ap (λ o. lesser longest_cmp o (least_of longest_cmp test ks)) (longer-lesser a k before.0) ∙ lesser_assoc longest_cmp longest_order (Some a) (Some k) (least_of longest_cmp test ks)))
      (λ no. rw no (folded a ks before.1 asc.1))

  reduced : (ks : List RouteKey) → IsStrictlySortedBy route_cmp ks → reduce longer (filter test ks) ≡ least_of longest_cmp test ks
  unfolding IsStrictlySortedBy
  reduced [] asc = refl
  reduced (k ∷ ks) asc = cond_both (test k) (k ∷ filter test ks) (filter test ks) (λ l. reduce longer l ≡ lesser longest_cmp (passing test k) (least_of longest_cmp test ks))
      (λ yes. rw yes (folded k ks asc.0 asc.1))
      (λ no. rw no (reduced ks asc.1))

  pub longest-least : (ks : List RouteKey) → reduce longer (filter test (set_of route_cmp ks)) ≡ least_of longest_cmp test ks
  longest-least ks =
      reduced (set_of route_cmp ks) (ascends-set_of route_cmp route_order.total ks)
      ∙ least_of-same longest_cmp longest_order test (set_of route_cmp ks) ks (λ k. (contains_set_of route_cmp route_order ks k, set_of_contains route_cmp route_order ks k))

-- one more item of what is scanned
module _ (cmp : RouteKey → RouteKey → Ordering) (order : IsKeyOrder cmp) (test : RouteKey → Bool) where
  least_more : {A : Type 0} (keys : List A → List RouteKey) → ((xs ys : List A) → keys (xs ++ ys) ≡ keys xs ++ keys ys) → (xs : List A) (i : ℕ) (x : A) (o : Option RouteKey) → i < length xs → x ≡ get_or xs i x → o ≡ least_of cmp test (keys (x ∷ [])) → lesser cmp (least_of cmp test (keys (take i xs))) o ≡ least_of cmp test (keys (take (i + 1) xs))
  least_more keys splits xs i x o within read is =
      ap (lesser cmp (least_of cmp test (keys (take i xs)))) is
      ∙ sym (least_of-append cmp order test (keys (take i xs)) (keys (x ∷ [])))
      ∙ ap (least_of cmp test) (sym (splits (take i xs) (x ∷ [])) ∙ ap keys (ap (λ y. take i xs ++ y ∷ []) read ∙ sym (take_more xs i x within)))

  one_subnet : (b : Bool) (k : RouteKey) (f : Cidr → RouteKey) (x : Cidr) → f (subnet_of x) ≡ k → (if b then passing test k else None) ≡ least_of cmp test (map f (map subnet_of (if b then x ∷ [] else [])))
  one_subnet true k f x is = ap (passing test) (sym is) ∙ sym (lesser_none cmp order (passing test (f (subnet_of x))))
  one_subnet false k f x is = refl

  subnet_keys-append : (vrf : ℕ) (xs ys : List Cidr) → subnet_keys vrf (xs ++ ys) ≡ subnet_keys vrf xs ++ subnet_keys vrf ys
  subnet_keys-append vrf xs ys =
      ap (λ l. map (key_in vrf) (map subnet_of l)) (filter-append has_subnet xs ys)
      ∙ ap (map (key_in vrf)) (map-append subnet_of (filter has_subnet xs) (filter has_subnet ys))
      ∙ map-append (key_in vrf) (map subnet_of (filter has_subnet xs)) (map subnet_of (filter has_subnet ys))

  pub subnets_more : (vrf : ℕ) (addrs : List Cidr) (i : ℕ) (addr : Cidr) (least new o : Option RouteKey) → i < length addrs → addr ≡ get_or addrs i addr → least ≡ least_of cmp test (subnet_keys vrf (take i addrs)) → o ≡ (if has_subnet addr then passing test (record { vrf = vrf; prefix = subnet_of addr }) else None) → new ≡ lesser cmp least o → new ≡ least_of cmp test (subnet_keys vrf (take (i + 1) addrs))
  subnets_more vrf addrs i addr least new o within read before is step =
      step ∙ ap (λ l. lesser cmp l o) before
      ∙ least_more (subnet_keys vrf) (subnet_keys-append vrf) addrs i addr o within read (is ∙ one_subnet (has_subnet addr) (record { vrf = vrf; prefix = subnet_of addr }) (key_in vrf) addr refl)

  pub intfs_more : (intfs : List (ℕ × IntfRec)) (i : ℕ) (e : ℕ × IntfRec) (least new o : Option RouteKey) → i < length intfs → e ≡ get_or intfs i e → least ≡ least_of cmp test (flat_map connected_keys (take i intfs)) → o ≡ least_of cmp test (subnet_keys e.1.vrf e.1.addrs) → new ≡ lesser cmp least o → new ≡ least_of cmp test (flat_map connected_keys (take (i + 1) intfs))
  intfs_more intfs i e least new o within read before is step =
      step ∙ ap (λ l. lesser cmp l o) before
      ∙ least_more (flat_map connected_keys) (flat_map-append connected_keys) intfs i e o within read (is ∙ ap (least_of cmp test) (sym (append-nil (connected_keys e))))

  pub routes_more : (routes : List (RibKey × RouteRec)) (i : ℕ) (e : RibKey × RouteRec) (least new o : Option RouteKey) → i < length routes → e ≡ get_or routes i e → least ≡ least_of cmp test (map routed_key (take i routes)) → o ≡ passing test (routed_key e) → new ≡ lesser cmp least o → new ≡ least_of cmp test (map routed_key (take (i + 1) routes))
  routes_more routes i e least new o within read before is step =
      step ∙ ap (λ l. lesser cmp l o) before
      ∙ least_more (map routed_key) (map-append routed_key) routes i e o within read (is ∙ sym (lesser_none cmp order (passing test (routed_key e))))

  pub both_least : (ks ls : List RouteKey) (first second least : Option RouteKey) → first ≡ least_of cmp test ks → second ≡ least_of cmp test ls → least ≡ lesser cmp first second → least ≡ least_of cmp test (ks ++ ls)
  both_least ks ls first second least is_first is_second is =
      is ∙ ap (λ o. lesser cmp o second) is_first ∙ ap (lesser cmp (least_of cmp test ks)) is_second ∙ sym (least_of-append cmp order test ks ls)
