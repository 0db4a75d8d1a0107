-- The best route is the nearest, and rests on its entries alone.
use Rattle.std.proofs.Common.{◌≡◌, ◌≤◌, ◌<◌, ℕ, if◌then◌else◌, ◌==◌, ◌&&◌, nat_lt, Bool, true, false, Option, None, Some, List, [], ◌∷◌, ◌⊎◌, refl, sym, ap, ◌∙◌, subst, inl, inr, arith}
use Rattle.std.specs.List.{Contains, find, fold, list_any, reduce}
use Rattle.std.specs.Option.{IsSome, is_some, option_map}
use Rattle.std.specs.Ordering.{nat_cmp}
use Rattle.std.specs.declared.cmp.Ordering.TheVariants.{Less}
use Rattle.std.proofs.lemmas.Bool.{cond_both, and_parts, and_from, ltb-true, ltb-false, true≢false}
use Rattle.std.proofs.lemmas.Bool.Decides.{Decides-eqb}
use Rattle.std.proofs.lemmas.Cmp.{ranked}
use Rattle.keyed.specs.Cases.{none_some, some_is}
use Rattle.keyed.specs.EntryLaws.{at_contains, contains_at}
use Rattle.keyed.specs.Keyed.{IsBelow, Ascends, at}
use Rattle.keyed.specs.KeyedLaws.{below_before}
use Rattle.keyed.specs.KeyOrders.{nat_order}
use Rattle.keyed.specs.ListLaws.{any_false, find_contains, find_none}
use Rattle.keyed.specs.Members.{contains_first, contains_later, contains_cases, contains_none, contains_filter, filter_contains}
use Rattle.net_types.specs.declared.client.Client.{Client}
use Rattle.net_types.specs.declared.client.Client.TheVariants.{Interface, Static, Openr, Ebgp, Ibgp}
use Rattle.net_types.specs.declared.table.RouteKey.{RouteKey}
use Rattle.net_types.specs.Cidr.{Cidr}
use Rattle.net_types.specs.Clients.{client_distance}
use Rattle.switch_model.specs.declared.key.RibKey.{RibKey}
use Rattle.switch_model.specs.declared.record.IntfRec.{IntfRec}
use Rattle.switch_model.specs.declared.record.RouteRec.{RouteRec}
use Rattle.switch_model.specs.Addresses.{same_addr}
use Rattle.switch_model.specs.BestRoute.{BestRoute, connected, learnt, best, connected_first, connected_to, has_subnet_in, nearer, routes_to}
use Rattle.switch_model.specs.PlainState.{Rib}
use Rattle.switch_model.specs.StateKeys.{rib_cmp, rib_order}
use Rattle.route_laws.proofs.Finds.{same_addr-is, same_addr-refl}
use Rattle.route_laws.specs.Entries.{AreInOrder, connects, connects_by, route_of}
use Rattle.route_laws.specs.Nearest.{IsBest, IsFirstConnected, IsNearest}

-- interfaces

-- what a test finds first, of entries that ascend by number, is the least that passes
below_entry : (k : ℕ) (es : List (ℕ × IntfRec)) (x : ℕ × IntfRec) → IsBelow nat_cmp k es → Ascends nat_cmp es → Contains es x → k < x.0
below_entry k [] x below asc has = absurd (contains_none x has)
below_entry k (e ∷ es) x below asc has = elim (contains_cases e es x has) [
  | inl is ↦ ranked k x.0 Less (sym (ap (λ (y : ℕ × IntfRec). nat_cmp k y.0) is ∙ below))
  | inr rest ↦ below_entry k es x (below_before nat_cmp nat_order k e.0 es below asc.0) asc.1 rest
]

find_least : (p : ℕ × IntfRec → Bool) (es : List (ℕ × IntfRec)) → Ascends nat_cmp es → (e x : ℕ × IntfRec) → find p es ≡ Some e → Contains es x → p x ≡ true → e.0 ≤ x.0
find_least p [] asc e x = λ is has passes. absurd (none_some is)
find_least p (y ∷ ys) asc e x = cond_both (p y) (Some y) (find p ys) (λ o. o ≡ Some e → Contains (y ∷ ys) x → p x ≡ true → e.0 ≤ x.0)
    (λ holds is has passes. let number : y.0 ≡ e.0 = ap (λ (z : ℕ × IntfRec). z.0) (some_is is) in elim (contains_cases y ys x has) [
      | inl same ↦ let one : x.0 ≡ y.0 = ap (λ (z : ℕ × IntfRec). z.0) same in omega (arith, number, one)
      | inr rest ↦ omega (arith, number, below_entry y.0 ys x asc.0 asc.1 rest)
    ])
    (λ fails is has passes. elim (contains_cases y ys x has) [
      | inl same ↦ absurd (true≢false (sym passes ∙ ap p same ∙ fails))
      | inr rest ↦ find_least p ys asc.1 e x is rest passes
    ])

find_passes : (p : ℕ × IntfRec → Bool) (es : List (ℕ × IntfRec)) (e : ℕ × IntfRec) → find p es ≡ Some e → p e ≡ true
find_passes p [] e = λ is. absurd (none_some is)
find_passes p (y ∷ ys) e = cond_both (p y) (Some y) (find p ys) (λ o. o ≡ Some e → p e ≡ true)
    (λ holds is. ap p (sym (some_is is)) ∙ holds)
    (λ fails is. find_passes p ys e is)

module _ (rib : Rib) (order : AreInOrder rib) (key : RouteKey) where
  abbrev has_it : ℕ × IntfRec → Bool
  has_it = has_subnet_in key.vrf key.prefix

  connects_entry : (intf : ℕ) (o : Option IntfRec) → at nat_cmp intf rib.intfs ≡ o → connects_by key intf o ≡ true → (r : IntfRec) × Contains rib.intfs (intf, r) × (has_it (intf, r) ≡ true)
  connects_entry intf None is holds = absurd (true≢false (sym holds))
  connects_entry intf (Some r) is holds = (r, at_contains nat_cmp nat_order intf r rib.intfs is, holds)

  entry_connects : (e : ℕ × IntfRec) → Contains rib.intfs e → has_it e ≡ true → connects rib key e.0 ≡ true
  entry_connects e has passes = ap (connects_by key e.0) (contains_at nat_cmp nat_order e rib.intfs order.intfs has) ∙ passes

  apart_by : (intf : ℕ) (o : Option IntfRec) → list_any has_it rib.intfs ≡ false → at nat_cmp intf rib.intfs ≡ o → connects_by key intf o ≡ false
  apart_by intf None none is = refl
  apart_by intf (Some r) none is = any_false has_it rib.intfs none (intf, r) (at_contains nat_cmp nat_order intf r rib.intfs is)

  first_connected : (o : Option (ℕ × IntfRec)) → find has_it rib.intfs ≡ o → (intf : ℕ) → option_map (λ (e : ℕ × IntfRec). e.0) o ≡ Some intf → IsFirstConnected rib key intf
  first_connected None found intf is = absurd (none_some is)
  first_connected (Some e) found intf is = subst (λ (i : ℕ). IsFirstConnected rib key i) (some_is is) (record {
    there = entry_connects e (find_contains has_it rib.intfs e found) (find_passes has_it rib.intfs e found);
    first = λ other holds. let x = connects_entry other (at nat_cmp other rib.intfs) refl holds in find_least has_it rib.intfs order.intfs e (other, x.0) found x.1 x.2;
  })

  none_connects : connected_to rib key.vrf key.prefix ≡ None → (intf : ℕ) → connects rib key intf ≡ false
  none_connects none intf = apart_by intf (at nat_cmp intf rib.intfs) (sym (find_none (λ (e : ℕ × IntfRec). e.0) has_it rib.intfs) ∙ ap is_some none) refl

-- routes

-- the nearest of some routes is one of them, and none is nearer
record IsNearestOf (es : List (RibKey × RouteRec)) (e : RibKey × RouteRec) : Type 0 where
  among : Contains es e
  nearest : (x : RibKey × RouteRec) → Contains es x → client_distance e.0.client ≤ client_distance x.0.client

record IsNearer (a b e : RibKey × RouteRec) : Type 0 where
  either : (e ≡ a) ⊎ (e ≡ b)
  first : client_distance e.0.client ≤ client_distance a.0.client
  second : client_distance e.0.client ≤ client_distance b.0.client

nearer-is : (a b : RibKey × RouteRec) → IsNearer a b (nearer a b)
nearer-is a b = cond_both (nat_lt (client_distance b.0.client) (client_distance a.0.client)) b a (λ e. IsNearer a b e)
    (λ less. let lt : client_distance b.0.client < client_distance a.0.client = ltb-true (client_distance b.0.client) (client_distance a.0.client) less in record { either = inr refl; first = omega (arith, lt); second = omega arith })
    (λ other. let le : client_distance a.0.client ≤ client_distance b.0.client = ltb-false (client_distance b.0.client) (client_distance a.0.client) other in record { either = inl refl; first = omega arith; second = le })

abbrev far : RibKey × RouteRec → ℕ
far e = client_distance e.0.client

fold_nearest : (a : RibKey × RouteRec) (es : List (RibKey × RouteRec)) → IsNearestOf (a ∷ es) (fold nearer a es)
fold_nearest a [] = record { among = contains_first a []; nearest = λ x has. elim (contains_cases a [] x has) [ inl is ↦ let same : far x ≡ far a = ap far is in omega (arith, same) | inr none ↦ absurd (contains_none x none) ] }
fold_nearest a (e ∷ es) =
    let step = nearer-is a e in
    let rest = fold_nearest (nearer a e) es in
    let top : far (fold nearer (nearer a e) es) ≤ far (nearer a e) = rest.nearest (nearer a e) (contains_first (nearer a e) es) in
    let P : RibKey × RouteRec → Type 0 = λ x. Contains (a ∷ e ∷ es) x in
    record {
      among = elim (contains_cases (nearer a e) es (fold nearer (nearer a e) es) rest.among) [
        | inl is ↦ elim step.either [
          | inl first ↦ subst P (sym (is ∙ first)) (contains_first a (e ∷ es))
          | inr second ↦ subst P (sym (is ∙ second)) (contains_later a (e ∷ es) e (contains_first e es))
        ]
        | inr later ↦ contains_later a (e ∷ es) (fold nearer (nearer a e) es) (contains_later e es (fold nearer (nearer a e) es) later)
      ];
      nearest = λ x has. elim (contains_cases a (e ∷ es) x has) [
        | inl is ↦ let same : far x ≡ far a = ap far is in omega (arith, same, step.first, top)
        | inr more ↦ elim (contains_cases e es x more) [
          | inl is ↦ let same : far x ≡ far e = ap far is in omega (arith, same, step.second, top)
          | inr later ↦ rest.nearest x (contains_later (nearer a e) es x later)
        ]
      ];
    }

abbrev key_by : RouteKey → Client → RibKey
key_by key client = record { vrf = key.vrf; prefix = key.prefix; client = client }

abbrev is_to : RouteKey → RibKey × RouteRec → Bool
is_to key e = (e.0.vrf == key.vrf) && same_addr key.prefix e.0.prefix

to-is : (key : RouteKey) (e : RibKey × RouteRec) → is_to key e ≡ true → e.0 ≡ key_by key e.0.client
to-is key e holds =
    let parts = and_parts (e.0.vrf == key.vrf) (same_addr key.prefix e.0.prefix) holds in
    let vrf : e.0.vrf ≡ key.vrf = (Decides-eqb e.0.vrf key.vrf).0 parts.0 in
    let prefix : key.prefix ≡ e.0.prefix = same_addr-is key.prefix e.0.prefix parts.1 in
    ap (λ (v : ℕ). record e.0 { vrf = v }) vrf ∙ ap (λ (p : Cidr). record e.0 { vrf = key.vrf; prefix = p }) (sym prefix)

module _ (rib : Rib) (order : AreInOrder rib) (key : RouteKey) where
  -- the routes to the key are those of its clients
  route_there : (e : RibKey × RouteRec) → Contains (routes_to rib key.vrf key.prefix) e → route_of rib key e.0.client ≡ Some e.1
  route_there e has =
      let found = contains_filter (is_to key) rib.routes e has in
      ap (λ (k : RibKey). at rib_cmp k rib.routes) (sym (to-is key e found.1)) ∙ contains_at rib_cmp rib_order e rib.routes order.routes found.0

  there_route : (client : Client) (route : RouteRec) → route_of rib key client ≡ Some route → Contains (routes_to rib key.vrf key.prefix) (key_by key client, route)
  there_route client route is =
      filter_contains (is_to key) rib.routes (key_by key client, route) (at_contains rib_cmp rib_order (key_by key client) route rib.routes is) (and_from (key.vrf == key.vrf) (same_addr key.prefix key.prefix) ((Decides-eqb key.vrf key.vrf).1 refl) (same_addr-refl key.prefix))

  near_route : (es : List (RibKey × RouteRec)) (e : RibKey × RouteRec) → routes_to rib key.vrf key.prefix ≡ es → IsNearestOf es e → ((intf : ℕ) → connects rib key intf ≡ false) → IsNearest rib key e.0.client e.1
  near_route es e are near apart = record {
    apart = apart;
    there = route_there e (subst (λ (l : List (RibKey × RouteRec)). Contains l e) (sym are) near.among);
    nearest = λ other some. by other (route_of rib key other) refl some;
  }
    where
      by : (other : Client) (o : Option RouteRec) → route_of rib key other ≡ o → IsSome o → client_distance e.0.client ≤ client_distance other
      by other None is some = absurd (cc)
      by other (Some route) is some = near.nearest (key_by key other, route) (subst (λ (l : List (RibKey × RouteRec)). Contains l (key_by key other, route)) are (there_route other route is))

  no_route : routes_to rib key.vrf key.prefix ≡ [] → (client : Client) (o : Option RouteRec) → route_of rib key client ≡ o → o ≡ None
  no_route none client None is = refl
  no_route none client (Some route) is = absurd (contains_none (key_by key client, route) (subst (λ (l : List (RibKey × RouteRec)). Contains l (key_by key client, route)) none (there_route client route is)))

  best_by : (c : Option ℕ) (es : List (RibKey × RouteRec)) → connected_to rib key.vrf key.prefix ≡ c → routes_to rib key.vrf key.prefix ≡ es → IsBest rib key (connected_first c (reduce nearer es))
  best_by (Some intf) es of_intf are = first_connected rib order key (find (has_subnet_in key.vrf key.prefix) rib.intfs) refl intf of_intf
  best_by None [] none are = record { apart = none_connects rib order key none; absent = λ client. no_route are client (route_of rib key client) refl }
  best_by None (e ∷ es) none are = near_route (e ∷ es) (fold nearer e es) are (fold_nearest e es) (none_connects rib order key none)

  pub best-is : IsBest rib key (best rib key.vrf key.prefix)
  best-is = best_by (connected_to rib key.vrf key.prefix) (routes_to rib key.vrf key.prefix) refl refl

-- one route is best

-- no two clients have one distance
abbrev client_at : ℕ → Client
client_at n = if n == 0 then Interface else (if n == 1 then Static else (if n == 10 then Openr else (if n == 20 then Ebgp else Ibgp)))

at_distance : (client : Client) → client_at (client_distance client) ≡ client
at_distance Interface = refl
at_distance Static = refl
at_distance Openr = refl
at_distance Ebgp = refl
at_distance Ibgp = refl

apart_there : (rib : Rib) (key : RouteKey) (intf : ℕ) → ((i : ℕ) → connects rib key i ≡ false) → connects rib key intf ≡ true → ⊥
apart_there rib key intf apart holds = true≢false (sym holds ∙ apart intf)

near_one : (rib : Rib) (key : RouteKey) (c d : Client) (r s : RouteRec) → IsNearest rib key c r → IsNearest rib key d s → learnt c r ≡ learnt d s
near_one rib key c d r s a b =
    let le : client_distance c ≤ client_distance d = a.nearest d (ap is_some b.there) in
    let ge : client_distance d ≤ client_distance c = b.nearest c (ap is_some a.there) in
    let distance : client_distance c ≡ client_distance d = omega (arith, le, ge) in
    let client : c ≡ d = sym (at_distance c) ∙ ap client_at distance ∙ at_distance d in
    let route : r ≡ s = some_is (sym a.there ∙ ap (route_of rib key) client ∙ b.there) in
    ap (λ (x : Client). learnt x r) client ∙ ap (learnt d) route

best_one : (rib : Rib) (key : RouteKey) (a b : Option BestRoute) → IsBest rib key a → IsBest rib key b → a ≡ b
best_one rib key None None is are = refl
best_one rib key None (Some (connected j)) is are = absurd (apart_there rib key j is.apart are.there)
best_one rib key None (Some (learnt d s)) is are = absurd (none_some (sym (is.absent d) ∙ are.there))
best_one rib key (Some (connected i)) None is are = absurd (apart_there rib key i are.apart is.there)
best_one rib key (Some (connected i)) (Some (connected j)) is are =
    let le : i ≤ j = is.first j are.there in
    let ge : j ≤ i = are.first i is.there in
    let same : i ≡ j = omega (arith, le, ge) in
    ap (λ (n : ℕ). Some (connected n)) same
best_one rib key (Some (connected i)) (Some (learnt d s)) is are = absurd (apart_there rib key i are.apart is.there)
best_one rib key (Some (learnt c r)) None is are = absurd (none_some (sym (are.absent c) ∙ is.there))
best_one rib key (Some (learnt c r)) (Some (connected j)) is are = absurd (apart_there rib key j is.apart are.there)
best_one rib key (Some (learnt c r)) (Some (learnt d s)) is are = ap (λ (b : BestRoute). Some b) (near_one rib key c d r s is are)

pub is-best : (rib : Rib) (key : RouteKey) (route : Option BestRoute) → AreInOrder rib → IsBest rib key route → best rib key.vrf key.prefix ≡ route
is-best rib key route order is = best_one rib key (best rib key.vrf key.prefix) route (best-is rib order key) is

-- and it rests on its entries alone
turned : (old new : Rib) (key : RouteKey) (o : Option BestRoute) → ((client : Client) → route_of old key client ≡ route_of new key client) → ((intf : ℕ) → connects old key intf ≡ connects new key intf) → IsBest new key o → IsBest old key o
turned old new key None routes intfs is = record { apart = λ intf. intfs intf ∙ is.apart intf; absent = λ client. routes client ∙ is.absent client }
turned old new key (Some (connected i)) routes intfs is = record { there = intfs i ∙ is.there; first = λ other holds. is.first other (sym (intfs other) ∙ holds) }
turned old new key (Some (learnt c r)) routes intfs is = record {
  apart = λ intf. intfs intf ∙ is.apart intf;
  there = routes c ∙ is.there;
  nearest = λ other some. is.nearest other (subst (λ (o : Option RouteRec). IsSome o) (routes other) some);
}

pub best-same : (old new : Rib) → AreInOrder old → AreInOrder new → (key : RouteKey) → ((client : Client) → route_of old key client ≡ route_of new key client) → ((intf : ℕ) → connects old key intf ≡ connects new key intf) → best old key.vrf key.prefix ≡ best new key.vrf key.prefix
best-same old new a b key routes intfs = is-best old key (best new key.vrf key.prefix) a (turned old new key (best new key.vrf key.prefix) routes intfs (best-is new b key))
