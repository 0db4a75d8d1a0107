-- What the gathering of ends keeps, step by step.
use Rattle.std.proofs.Common.{◌≡◌, ◌<◌, ◌≤◌, ◌+◌, ◌↔◌, ℕ, List, [], ◌∷◌, ◌++◌, ◌⊎◌, ◌∙◌, length, get_or, take, map, refl, sym, ap, subst, inl, inr, append_assoc, append-nil, arith, length-append}
use Rattle.std.proofs.lemmas.Bool.{cases_lt}
use Rattle.std.proofs.lemmas.List.{take_more, map-append, length-map, get_or_append_left, get_or_read}
use Rattle.std.proofs.lemmas.List.Elements.{Contains-push_cases, Contains-push, Contains-append_left}
use Rattle.std.specs.List.{Contains}
use Rattle.std.specs.Ordering.{nat_cmp}
use Rattle.keyed.specs.Members.{contains_first, contains_later, contains_none, few_distinct, IsDistinct}
use Rattle.net_types.specs.Cidr.{Cidr}
use Rattle.net_types.specs.declared.hop.Hop.{Hop}
use Rattle.net_types.specs.declared.table.HostKey.{HostKey}
use Rattle.net_types.specs.declared.table.RouteKey.{RouteKey}
use Rattle.keyed.specs.KeyOrders.{nat_order}
use Rattle.keyed.specs.SetLaws.{contains_insert, insert_contains}
use Rattle.keyed.specs.Sets.{insert}
use Rattle.state_keys.specs.KeyLaws.{fib_numbering}
use Rattle.state_keys.specs.PartKeys.{fib_number, IsFib}
use Rattle.nexthop_resolve.specs.declared.gather.Gathered.{Gathered}
use Rattle.switch_model.specs.Ends.{AreEnds}
use Rattle.nexthop_resolve.specs.Gathered.{Grows, Holds, IsEmpty, IsTied, key_in}
use Rattle.switch_model.specs.PlainState.{Rib}
use Rattle.switch_model.specs.Reach.{Lead, direct, onward, to_cpu, dropped, nothing, leads, IsChain, Reaches}
use Rattle.switch_model.specs.ReachLaws.{reaches_first, HasHops, followed-has_hops, has_hops-routed, route_prefix}

distinct_push : {A : Type 0} (xs : List A) (y : A) → IsDistinct xs → (Contains xs y → ⊥) → IsDistinct (xs ++ y ∷ [])
distinct_push [] y distinct new = ((λ has. contains_none y has), tt)
distinct_push {A = A} (x ∷ xs) y distinct new = (
  (λ has. elim (Contains-push_cases xs y x has) [ inl old ↦ distinct.0 old | inr same ↦ let P : A → Type 0 = λ z. Contains (x ∷ xs) z in new (subst P (sym same) (contains_first x xs)) ]),
  distinct_push xs y distinct.1 (λ has. new (contains_later x xs y has)),
)

pub grows_none : (vrf : ℕ) (a : Gathered) → Grows vrf a a (Contains [])
grows_none vrf a = record {
  tied = λ t. t;
  stays = λ m h. h;
  takes = λ t m h. absurd (contains_none m h);
  only = λ m h. inl h;
  queue = ([], sym (append-nil a.seen.items));
  distinct = λ t k. k;
}

pub grows_then : (vrf : ℕ) (a b c : Gathered) (P Q R : Lead → Type 0) → Grows vrf a b P → Grows vrf b c Q → ((m : Lead) → R m → P m ⊎ Q m) → ((m : Lead) → P m ⊎ Q m → R m) → Grows vrf a c R
grows_then vrf a b c P Q R first next parts whole = record {
  tied = λ t. next.tied (first.tied t);
  stays = λ m h. next.stays m (first.stays m h);
  takes = λ t m h. elim (parts m h) [ inl p ↦ next.stays m (first.takes t m p) | inr q ↦ next.takes (first.tied t) m q ];
  only = λ m h. elim (next.only m h) [
    | inl old ↦ elim (first.only m old) [ inl older ↦ inl older | inr p ↦ inr (whole m (inl p)) ]
    | inr q ↦ inr (whole m (inr q))
  ];
  queue = (first.queue.0 ++ next.queue.0, next.queue.1 ∙ ap (λ l. l ++ next.queue.0) first.queue.1 ∙ append_assoc a.seen.items first.queue.0 next.queue.0);
  distinct = λ t k. next.distinct (first.tied t) (first.distinct t k);
}

pub grows_same : (vrf : ℕ) (a b : Gathered) (xs ys : List Lead) → Grows vrf a b (Contains xs) → xs ≡ ys → Grows vrf a b (Contains ys)
grows_same vrf a b xs ys g is = let P : List Lead → Type 0 = λ l. Grows vrf a b (Contains l) in subst P is g

-- one more hop
pub grows_hop : (vrf : ℕ) (f : Hop → Lead) (hops : List Hop) (i : ℕ) (hop : Hop) (x : Lead) (a b c : Gathered) → i < length hops → hop ≡ get_or hops i hop → x ≡ f hop → Grows vrf a b (Contains (map f (take i hops))) → Grows vrf b c (λ m. m ≡ x) → Grows vrf a c (Contains (map f (take (i + 1) hops)))
grows_hop vrf f hops i hop x a b c within at met first next =
    let done = map f (take i hops) in
    let more : map f (take (i + 1) hops) ≡ done ++ x ∷ [] =
    ap (map f) (take_more hops i hop within) ∙ map-append f (take i hops) (get_or hops i hop ∷ []) ∙ ap (λ y. done ++ y ∷ []) (ap f (sym at) ∙ sym met) in
    let P : List Lead → Type 0 = λ l. Grows vrf a c (Contains l) in
    let Q : Lead → Type 0 = λ y. Contains (done ++ x ∷ []) y in
    subst P (sym more) (grows_then vrf a b c (Contains done) (λ m. m ≡ x) (Contains (done ++ x ∷ [])) first next
    (λ m has. elim (Contains-push_cases done x m has) [ inl old ↦ inl old | inr e ↦ inr (sym e) ])
    (λ m has. elim has [ inl old ↦ Contains-append_left done (x ∷ []) m old | inr e ↦ subst Q (sym e) (Contains-push done x) ]))

-- one more host
host_stays : (a b : Gathered) (host : HostKey) → b.seen ≡ a.seen → b.hosts.items ≡ a.hosts.items ++ host ∷ [] → b.cpu ≡ a.cpu → b.discard ≡ a.discard → (m : Lead) → Holds a m → Holds b m
host_stays a b host seen hosts cpu discard (direct h) has = let P : List HostKey → Type 0 = λ l. Contains l h in subst P (sym hosts) (Contains-append_left a.hosts.items (host ∷ []) h has)
host_stays a b host seen hosts cpu discard (onward q) has = rw seen has
host_stays a b host seen hosts cpu discard to_cpu has = cpu ∙ has
host_stays a b host seen hosts cpu discard dropped has = discard ∙ has
host_stays a b host seen hosts cpu discard nothing has = tt

host_only : (a b : Gathered) (host : HostKey) → b.seen ≡ a.seen → b.hosts.items ≡ a.hosts.items ++ host ∷ [] → b.cpu ≡ a.cpu → b.discard ≡ a.discard → (m : Lead) → Holds b m → Holds a m ⊎ (m ≡ direct host)
host_only a b host seen hosts cpu discard (direct h) has =
    let P : List HostKey → Type 0 = λ l. Contains l h in
    elim (Contains-push_cases a.hosts.items host h (subst P hosts has)) [ inl old ↦ inl old | inr same ↦ inr (ap direct (sym same)) ]
host_only a b host seen hosts cpu discard (onward q) has = inl (rw (← seen) has)
host_only a b host seen hosts cpu discard to_cpu has = inl (sym cpu ∙ has)
host_only a b host seen hosts cpu discard dropped has = inl (sym discard ∙ has)
host_only a b host seen hosts cpu discard nothing has = inl tt

tied_same : (vrf : ℕ) (a b : Gathered) → b.seen.items ≡ a.seen.items → b.known ≡ a.known → IsTied vrf a → IsTied vrf b
tied_same vrf a b seen known t = record {
  known = λ p is.
      let n : ℕ = fib_number (key_in vrf p) in
      subst (λ (k : List ℕ). Contains k n ↔ Contains b.seen.items p) (sym known) (subst (λ (s : List Cidr). Contains a.known n ↔ Contains s p) (sym seen) (t.known p is));
}

pub grows_host : (vrf : ℕ) (a b : Gathered) (host : HostKey) → b.seen ≡ a.seen → b.known ≡ a.known → b.hosts.items ≡ a.hosts.items ++ host ∷ [] → b.cpu ≡ a.cpu → b.discard ≡ a.discard → (x : Lead) → x ≡ direct host → Grows vrf a b (λ m. m ≡ x)
grows_host vrf a b host seen known hosts cpu discard x is =
    let P : List HostKey → Type 0 = λ l. Contains l host in
    let D : List Cidr → Type 0 = λ l. IsDistinct l in
    let Q : Lead → Type 0 = λ m. Holds b m in
    record {
      tied = tied_same vrf a b (ap (λ v. v.items) seen) known;
      stays = host_stays a b host seen hosts cpu discard;
      takes = λ t m e. subst Q (sym (e ∙ is)) (subst P (sym hosts) (Contains-push a.hosts.items host));
      only = λ m h. elim (host_only a b host seen hosts cpu discard m h) [ inl old ↦ inl old | inr e ↦ inr (e ∙ sym is) ];
      queue = ([], ap (λ v. v.items) seen ∙ sym (append-nil a.seen.items));
      distinct = λ t k. subst D (sym (ap (λ v. v.items) seen)) k;
    }

-- one more route on the way
route_stays : (a b : Gathered) (q : Cidr) → b.seen.items ≡ a.seen.items ++ q ∷ [] → b.hosts ≡ a.hosts → b.cpu ≡ a.cpu → b.discard ≡ a.discard → (m : Lead) → Holds a m → Holds b m
route_stays a b q seen hosts cpu discard (direct h) has = rw hosts has
route_stays a b q seen hosts cpu discard (onward r) has = let P : List Cidr → Type 0 = λ l. Contains l r in subst P (sym seen) (Contains-append_left a.seen.items (q ∷ []) r has)
route_stays a b q seen hosts cpu discard to_cpu has = cpu ∙ has
route_stays a b q seen hosts cpu discard dropped has = discard ∙ has
route_stays a b q seen hosts cpu discard nothing has = tt

route_only : (a b : Gathered) (q : Cidr) → b.seen.items ≡ a.seen.items ++ q ∷ [] → b.hosts ≡ a.hosts → b.cpu ≡ a.cpu → b.discard ≡ a.discard → (m : Lead) → Holds b m → Holds a m ⊎ (m ≡ onward q)
route_only a b q seen hosts cpu discard (direct h) has = inl (rw (← hosts) has)
route_only a b q seen hosts cpu discard (onward r) has =
    let P : List Cidr → Type 0 = λ l. Contains l r in
    elim (Contains-push_cases a.seen.items q r (subst P seen has)) [ inl old ↦ inl old | inr same ↦ inr (ap onward (sym same)) ]
route_only a b q seen hosts cpu discard to_cpu has = inl (sym cpu ∙ has)
route_only a b q seen hosts cpu discard dropped has = inl (sym discard ∙ has)
route_only a b q seen hosts cpu discard nothing has = inl tt

same_prefix : (vrf : ℕ) (p q : Cidr) → IsFib (key_in vrf p) → IsFib (key_in vrf q) → fib_number (key_in vrf p) ≡ fib_number (key_in vrf q) → p ≡ q
same_prefix vrf p q is is2 same = ap (λ (k : RouteKey). k.prefix) (fib_numbering.distinct (key_in vrf p) (key_in vrf q) is is2 same)

module _ (vrf : ℕ) (a b : Gathered) (q : Cidr) (n : ℕ) (number : n ≡ fib_number (key_in vrf q)) (range : IsFib (key_in vrf q)) (known : b.known ≡ insert nat_cmp n a.known) (seen : b.seen.items ≡ a.seen.items ++ q ∷ []) where
  tied_push : IsTied vrf a → IsTied vrf b
  tied_push t = record {
    known = λ p is. (
      (λ has. subst (λ (l : List Cidr). Contains l p) (sym seen) (elim (contains_insert nat_cmp nat_order n a.known (fib_number (key_in vrf p)) (subst (λ (l : List ℕ). Contains l (fib_number (key_in vrf p))) known has)) [
        | inl same ↦ subst (λ (x : Cidr). Contains (a.seen.items ++ q ∷ []) x) (sym (same_prefix vrf p q is range (same ∙ number))) (Contains-push a.seen.items q)
        | inr old ↦ Contains-append_left a.seen.items (q ∷ []) p ((t.known p is).0 old)
      ])),
      (λ has. subst (λ (l : List ℕ). Contains l (fib_number (key_in vrf p))) (sym known) (insert_contains nat_cmp nat_order n a.known (fib_number (key_in vrf p)) (elim (Contains-push_cases a.seen.items q p (subst (λ (l : List Cidr). Contains l p) seen has)) [
        | inl old ↦ inr ((t.known p is).1 old)
        | inr same ↦ inl (ap (λ (x : Cidr). fib_number (key_in vrf x)) (sym same) ∙ sym number)
      ]))),
    );
  }

  pub grows_route : b.hosts ≡ a.hosts → b.cpu ≡ a.cpu → b.discard ≡ a.discard → (Contains a.known n → ⊥) → Grows vrf a b (λ m. m ≡ onward q)
  grows_route hosts cpu discard new =
      let P : List Cidr → Type 0 = λ l. Contains l q in
      let D : List Cidr → Type 0 = λ l. IsDistinct l in
      let Q : Lead → Type 0 = λ m. Holds b m in
      record {
        tied = tied_push;
        stays = route_stays a b q seen hosts cpu discard;
        takes = λ t m e. subst Q (sym e) (subst P (sym seen) (Contains-push a.seen.items q));
        only = route_only a b q seen hosts cpu discard;
        queue = (q ∷ [], seen);
        distinct = λ t k. subst D (sym seen) (distinct_push a.seen.items q k (λ has. new (subst (λ (x : ℕ). Contains a.known x) (sym number) ((t.known q range).1 has))));
      }

-- what is there already
pub grows_known : (vrf : ℕ) (a : Gathered) (q : Cidr) (n : ℕ) → n ≡ fib_number (key_in vrf q) → IsFib (key_in vrf q) → Contains a.known n → Grows vrf a a (λ m. m ≡ onward q)
grows_known vrf a q n number range there = record {
  tied = λ t. t;
  stays = λ m h. h;
  takes = λ t m e. let Q : Lead → Type 0 = λ x. Holds a x in subst Q (sym e) ((t.known q range).0 (subst (λ (x : ℕ). Contains a.known x) number there));
  only = λ m h. inl h;
  queue = ([], sym (append-nil a.seen.items));
  distinct = λ t k. k;
}

-- what one hop leads to
pub grows_as : (vrf : ℕ) (a b : Gathered) (x y : Lead) → Grows vrf a b (λ m. m ≡ x) → x ≡ y → Grows vrf a b (λ m. m ≡ y)
grows_as vrf a b x y g is = subst (λ (z : Lead). Grows vrf a b (λ m. m ≡ z)) is g

-- the start, or nothing, or what the start reaches
pub data HasCause (rib : Rib) (vrf : ℕ) (start : Cidr) (m : Lead) : Type 0 where
  is_start : m ≡ onward start → HasCause rib vrf start m
  is_nothing : m ≡ nothing → HasCause rib vrf start m
  is_reached : Reaches rib vrf start m → HasCause rib vrf start m

-- what is gathered once `done` of the routes on the way were followed
pub record IsAt (rib : Rib) (vrf : ℕ) (start : Cidr) (done : ℕ) (all : Gathered) : Type 0 where
  pub within : done ≤ length all.seen.items
  pub first : Contains all.seen.items start
  pub tied : IsTied vrf all
  pub distinct : IsDistinct all.seen.items
  pub sound : (m : Lead) → Holds all m → HasCause rib vrf start m
  pub complete : (k : ℕ) (d : Cidr) → k < done → (m : Lead) → Contains (leads rib vrf (get_or all.seen.items k d)) m → Holds all m

chain_more : (rib : Rib) (vrf : ℕ) (p : Cidr) (members : List Cidr) (q r : Cidr) → IsChain rib vrf p members q → Contains (leads rib vrf q) (onward r) → IsChain rib vrf p (members ++ r ∷ []) r
chain_more rib vrf p [] q r e given = let P : Cidr → Type 0 = λ x. Contains (leads rib vrf x) (onward r) in (subst P (sym e) given, refl)
chain_more rib vrf p (s ∷ ss) q r chain given = (chain.0, chain_more rib vrf s ss q r chain.1 given)

reaches_more : (rib : Rib) (vrf : ℕ) (p q : Cidr) (m : Lead) → Reaches rib vrf p (onward q) → Contains (leads rib vrf q) m → Reaches rib vrf p m
reaches_more rib vrf p q m r given = record { last = q; members = r.members ++ q ∷ []; chain = chain_more rib vrf p r.members r.last q r.chain r.given; given = given }

cause_then : (rib : Rib) (vrf : ℕ) (start q : Cidr) → HasCause rib vrf start (onward q) → (m : Lead) → Contains (leads rib vrf q) m → Reaches rib vrf start m
cause_then rib vrf start q (is_start e) m given = let same : q ≡ start = cc in let P : Cidr → Type 0 = λ x. Contains (leads rib vrf x) m in reaches_first rib vrf start m (subst P same given)
cause_then rib vrf start q (is_nothing e) m given = absurd (cc)
cause_then rib vrf start q (is_reached r) m given = reaches_more rib vrf start q m r given

pub at_more : (rib : Rib) (vrf : ℕ) (start : Cidr) (done : ℕ) (q : Cidr) (a b : Gathered) → IsAt rib vrf start done a → done < length a.seen.items → q ≡ get_or a.seen.items done q → Grows vrf a b (Contains (leads rib vrf q)) → IsAt rib vrf start (done + 1) b
at_more rib vrf start done q a b at lt is g =
    let kept_place : (k : ℕ) (d : Cidr) → k < length a.seen.items → get_or b.seen.items k d ≡ get_or a.seen.items k d =
    λ k d l. ap (λ s. get_or s k d) g.queue.1 ∙ get_or_append_left a.seen.items g.queue.0 d k l in
    let on_way : Contains a.seen.items q = (done, lt, sym is) in
    record {
      within = omega (arith, ap length g.queue.1, length-append a.seen.items g.queue.0);
      first = g.stays (onward start) at.first;
      tied = g.tied at.tied;
      distinct = g.distinct at.tied at.distinct;
      sound = λ m h. elim (g.only m h) [ inl old ↦ at.sound m old | inr given ↦ is_reached (cause_then rib vrf start q (at.sound (onward q) on_way) m given) ];
      complete = λ k d l m given.
          let P : Cidr → Type 0 = λ x. Contains (leads rib vrf x) m in
          let below : k < length a.seen.items = omega arith in
          let old_given : Contains (leads rib vrf (get_or a.seen.items k d)) m = subst P (kept_place k d below) given in
          elim (cases_lt k done) [
            | inl before ↦ g.stays m (at.complete k d before m old_given)
            | inr here ↦
                let same : k ≡ done = omega arith in
                g.takes at.tied m (subst P (ap (λ i. get_or a.seen.items i d) same ∙ sym (get_or_read a.seen.items done q lt is d)) old_given)
          ];
    }

reached-as : (rib : Rib) (vrf : ℕ) (start : Cidr) (m : Lead) → HasCause rib vrf start m → (m ≡ onward start → ⊥) → (m ≡ nothing → ⊥) → Reaches rib vrf start m
reached-as rib vrf start m (is_start e) not none = absurd (not e)
reached-as rib vrf start m (is_nothing e) not none = absurd (none e)
reached-as rib vrf start m (is_reached r) not none = r

chain_stays : (rib : Rib) (vrf : ℕ) (all : Gathered) → ((q r : Cidr) → Holds all (onward q) → Contains (leads rib vrf q) (onward r) → Holds all (onward r)) → (p : Cidr) (members : List Cidr) (q : Cidr) → IsChain rib vrf p members q → Holds all (onward p) → Holds all (onward q)
chain_stays rib vrf all passes p [] q e here = let P : Cidr → Type 0 = λ x. Holds all (onward x) in subst P e here
chain_stays rib vrf all passes p (r ∷ rs) q chain here = chain_stays rib vrf all passes r rs q chain.1 (passes p r here chain.0)

pub at_end : (rib : Rib) (vrf : ℕ) (start : Cidr) (done : ℕ) (all : Gathered) → IsAt rib vrf start done all → length all.seen.items ≤ done → AreEnds rib vrf start all.hosts.items all.cpu all.discard
at_end rib vrf start done all at over =
    let closed : (q : Cidr) (m : Lead) → Holds all (onward q) → Contains (leads rib vrf q) m → Holds all m =
    λ q m on_way given. let P : Cidr → Type 0 = λ x. Contains (leads rib vrf x) m in let k_below : on_way.0 < length all.seen.items = on_way.1 in at.complete on_way.0 q (omega arith) m (subst P (sym on_way.2) given) in
    let has : (m : Lead) → Reaches rib vrf start m → Holds all m =
    λ m r. closed r.last m (chain_stays rib vrf all (λ q s h g. closed q (onward s) h g) start r.members r.last r.chain at.first) r.given in
    record {
      by_host = λ h. (λ held. reached-as rib vrf start (direct h) (at.sound (direct h) held) (λ e. cc) (λ e. cc), has (direct h));
      by_cpu = (λ held. reached-as rib vrf start to_cpu (at.sound to_cpu held) (λ e. cc) (λ e. cc), has to_cpu);
      by_drop = (λ held. reached-as rib vrf start dropped (at.sound dropped held) (λ e. cc) (λ e. cc), has dropped);
    }

-- the routes on the way are routes of the state, so there are no more of them
on_way_routed : (rib : Rib) (vrf : ℕ) (start q : Cidr) → HasHops rib vrf start → HasCause rib vrf start (onward q) → Contains (map route_prefix rib.routes) q
on_way_routed rib vrf start q has (is_start e) = let same : q ≡ start = cc in let P : Cidr → Type 0 = λ x. Contains (map route_prefix rib.routes) x in subst P (sym same) (has_hops-routed rib vrf start has)
on_way_routed rib vrf start q has (is_nothing e) = absurd (cc)
on_way_routed rib vrf start q has (is_reached r) = has_hops-routed rib vrf q (followed-has_hops rib vrf r.last q r.given)

pub few_seen : (rib : Rib) (vrf : ℕ) (start : Cidr) (done : ℕ) (all : Gathered) → IsAt rib vrf start done all → HasHops rib vrf start → length all.seen.items ≤ length rib.routes
few_seen rib vrf start done all at has =
    let few : length all.seen.items ≤ length (map route_prefix rib.routes) =
    few_distinct all.seen.items (map route_prefix rib.routes) at.distinct (λ q h. on_way_routed rib vrf start q has (at.sound (onward q) h)) in
    omega (arith, few, length-map rib.routes route_prefix)

empty_sound : (rib : Rib) (vrf : ℕ) (start : Cidr) (a : Gathered) → IsEmpty a → (m : Lead) → Holds a m → HasCause rib vrf start m
empty_sound rib vrf start a none (direct h) has = let P : List HostKey → Type 0 = λ l. Contains l h in absurd (contains_none h (subst P none.hosts has))
empty_sound rib vrf start a none (onward q) has = let P : List Cidr → Type 0 = λ l. Contains l q in absurd (contains_none q (subst P none.seen has))
empty_sound rib vrf start a none to_cpu has = let cpu = none.cpu in absurd (cc)
empty_sound rib vrf start a none dropped has = let discard = none.discard in absurd (cc)
empty_sound rib vrf start a none nothing has = is_nothing refl

empty_tied : (vrf : ℕ) (a : Gathered) → IsEmpty a → IsTied vrf a
empty_tied vrf a none = record {
  known = λ p is. (
    (λ has. absurd (contains_none (fib_number (key_in vrf p)) (subst (λ (l : List ℕ). Contains l (fib_number (key_in vrf p))) none.known has))),
    (λ has. absurd (contains_none p (subst (λ (l : List Cidr). Contains l p) none.seen has))),
  );
}

pub at_start : (rib : Rib) (vrf : ℕ) (start : Cidr) (a b : Gathered) → IsEmpty a → Grows vrf a b (λ m. m ≡ onward start) → IsAt rib vrf start 0 b
at_start rib vrf start a b none g =
    let t : IsTied vrf a = empty_tied vrf a none in
    let D : List Cidr → Type 0 = λ l. IsDistinct l in
    record {
      within = omega arith;
      first = g.takes t (onward start) refl;
      tied = g.tied t;
      distinct = g.distinct t (subst D (sym none.seen) tt);
      sound = λ m h. elim (g.only m h) [ inl old ↦ empty_sound rib vrf start a none m old | inr is ↦ is_start is ];
      complete = λ k d lt m given. absurd (omega arith);
    }
