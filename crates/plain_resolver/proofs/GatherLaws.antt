-- What the gathering of ends keeps, step by step.
use Rattle.std.proofs.Common.{◌≡◌, ◌<◌, ◌≤◌, ◌+◌, ℕ, Bool, true, false, List, [], ◌∷◌, ◌++◌, ◌⊎◌, ◌∙◌, length, get_or, take, map, refl, sym, ap, subst, inl, inr, append_assoc, append-nil, arith, length-append}
use Rattle.std.proofs.lemmas.Bool.{cases_lt}
use Rattle.std.proofs.lemmas.List.{take_more, map-append, length-map, get_or_append_left, get_or_read}
use Rattle.std.proofs.lemmas.List.Elements.{Contains-push_cases, Contains-push, Contains-append_left}
use Rattle.std.proofs.lemmas.List.Folds.{Any-from_list_any, list_any-from_Any}
use Rattle.std.proofs.lemmas.Cmp.{tied_itself}
use Rattle.std.specs.List.{Contains, list_any}
use Rattle.std.specs.Ordering.{is_eq}
use Rattle.std.specs.declared.cmp.Ordering.{Ordering}
use Rattle.std.specs.declared.cmp.Ordering.TheVariants.{Less, Equal, Greater}
use Rattle.keyed.specs.Members.{contains_first, contains_later, contains_cases, contains_none, few_distinct, IsDistinct}
use Rattle.net_types.specs.Cidr.{Cidr}
use Rattle.net_types.specs.KeyOrder.{prefix_cmp, prefix_order}
use Rattle.net_types.specs.declared.hop.Hop.{Hop}
use Rattle.net_types.specs.declared.table.HostKey.{HostKey}
use Rattle.plain_resolver.specs.declared.gather.Gathered.{Gathered}
use Rattle.switch_model.specs.Addresses.{same_addr}
use Rattle.switch_model.specs.Ends.{AreEnds}
use Rattle.plain_resolver.specs.Gathered.{Holds, Grows}
use Rattle.switch_model.specs.PlainState.{Rib}
use Rattle.switch_model.specs.Reach.{Lead, direct, onward, to_cpu, dropped, nothing, leads, IsChain, Reaches}
use Rattle.switch_model.specs.ReachLaws.{reaches_first, HasHops, followed-has_hops, has_hops-routed, route_prefix}

distinct_push : {A : Type 0} (xs : List A) (y : A) → IsDistinct xs → (Contains xs y → ⊥) → IsDistinct (xs ++ y ∷ [])
distinct_push [] y distinct new = ((λ has. contains_none y has), tt)
distinct_push {A = A} (x ∷ xs) y distinct new = (
  (λ has. elim (Contains-push_cases xs y x has) [ inl old ↦ distinct.0 old | inr same ↦ let P : A → Type 0 = λ z. Contains (x ∷ xs) z in new (subst P (sym same) (contains_first x xs)) ]),
  distinct_push xs y distinct.1 (λ has. new (contains_later x xs y has)),
)

pub grows_none : (a : Gathered) → Grows a a (Contains [])
grows_none a = record {
  stays = λ m h. h;
  takes = λ m h. absurd (contains_none m h);
  only = λ m h. inl h;
  queue = ([], sym (append-nil a.seen.items));
  distinct = λ k. k;
}

grows_then : (a b c : Gathered) (P Q R : Lead → Type 0) → Grows a b P → Grows b c Q → ((m : Lead) → R m → P m ⊎ Q m) → ((m : Lead) → P m ⊎ Q m → R m) → Grows a c R
grows_then a b c P Q R first next parts whole = record {
  stays = λ m h. next.stays m (first.stays m h);
  takes = λ m h. elim (parts m h) [ inl p ↦ next.stays m (first.takes m p) | inr q ↦ next.takes m q ];
  only = λ m h. elim (next.only m h) [
    | inl old ↦ elim (first.only m old) [ inl older ↦ inl older | inr p ↦ inr (whole m (inl p)) ]
    | inr q ↦ inr (whole m (inr q))
  ];
  queue = (first.queue.0 ++ next.queue.0, next.queue.1 ∙ ap (λ l. l ++ next.queue.0) first.queue.1 ∙ append_assoc a.seen.items first.queue.0 next.queue.0);
  distinct = λ k. next.distinct (first.distinct k);
}

pub grows_same : (a b : Gathered) (xs ys : List Lead) → Grows a b (Contains xs) → xs ≡ ys → Grows a b (Contains ys)
grows_same a b xs ys g is = let P : List Lead → Type 0 = λ l. Grows a b (Contains l) in subst P is g

-- one more hop
pub grows_hop : (f : Hop → Lead) (hops : List Hop) (i : ℕ) (hop : Hop) (x : Lead) (a b c : Gathered) → i < length hops → hop ≡ get_or hops i hop → x ≡ f hop → Grows a b (Contains (map f (take i hops))) → Grows b c (λ m. m ≡ x) → Grows a c (Contains (map f (take (i + 1) hops)))
grows_hop f hops i hop x a b c within at met first next =
    let done = map f (take i hops) in
    let more : map f (take (i + 1) hops) ≡ done ++ x ∷ [] =
    ap (map f) (take_more hops i hop within) ∙ map-append f (take i hops) (get_or hops i hop ∷ []) ∙ ap (λ y. done ++ y ∷ []) (ap f (sym at) ∙ sym met) in
    let P : List Lead → Type 0 = λ l. Grows a c (Contains l) in
    let Q : Lead → Type 0 = λ y. Contains (done ++ x ∷ []) y in
    subst P (sym more) (grows_then a b c (Contains done) (λ m. m ≡ x) (Contains (done ++ x ∷ [])) first next
    (λ m has. elim (Contains-push_cases done x m has) [ inl old ↦ inl old | inr e ↦ inr (sym e) ])
    (λ m has. elim has [ inl old ↦ Contains-append_left done (x ∷ []) m old | inr e ↦ subst Q (sym e) (Contains-push done x) ]))

-- one more host
host_stays : (a b : Gathered) (host : HostKey) → b.seen ≡ a.seen → b.hosts.items ≡ a.hosts.items ++ host ∷ [] → b.cpu ≡ a.cpu → b.discard ≡ a.discard → (m : Lead) → Holds a m → Holds b m
host_stays a b host seen hosts cpu discard (direct h) has = let P : List HostKey → Type 0 = λ l. Contains l h in subst P (sym hosts) (Contains-append_left a.hosts.items (host ∷ []) h has)
host_stays a b host seen hosts cpu discard (onward q) has = rw seen has
host_stays a b host seen hosts cpu discard to_cpu has = cpu ∙ has
host_stays a b host seen hosts cpu discard dropped has = discard ∙ has
host_stays a b host seen hosts cpu discard nothing has = tt

host_only : (a b : Gathered) (host : HostKey) → b.seen ≡ a.seen → b.hosts.items ≡ a.hosts.items ++ host ∷ [] → b.cpu ≡ a.cpu → b.discard ≡ a.discard → (m : Lead) → Holds b m → Holds a m ⊎ (m ≡ direct host)
host_only a b host seen hosts cpu discard (direct h) has =
    let P : List HostKey → Type 0 = λ l. Contains l h in
    elim (Contains-push_cases a.hosts.items host h (subst P hosts has)) [ inl old ↦ inl old | inr same ↦ inr (ap direct (sym same)) ]
host_only a b host seen hosts cpu discard (onward q) has = inl (rw (← seen) has)
host_only a b host seen hosts cpu discard to_cpu has = inl (sym cpu ∙ has)
host_only a b host seen hosts cpu discard dropped has = inl (sym discard ∙ has)
host_only a b host seen hosts cpu discard nothing has = inl tt

pub grows_host : (a b : Gathered) (host : HostKey) → b.seen ≡ a.seen → b.hosts.items ≡ a.hosts.items ++ host ∷ [] → b.cpu ≡ a.cpu → b.discard ≡ a.discard → (x : Lead) → x ≡ direct host → Grows a b (λ m. m ≡ x)
grows_host a b host seen hosts cpu discard x is =
    let P : List HostKey → Type 0 = λ l. Contains l host in
    let D : List Cidr → Type 0 = λ l. IsDistinct l in
    let Q : Lead → Type 0 = λ m. Holds b m in
    record {
      stays = host_stays a b host seen hosts cpu discard;
      takes = λ m e. subst Q (sym (e ∙ is)) (subst P (sym hosts) (Contains-push a.hosts.items host));
      only = λ m h. elim (host_only a b host seen hosts cpu discard m h) [ inl old ↦ inl old | inr e ↦ inr (e ∙ sym is) ];
      queue = ([], ap (λ v. v.items) seen ∙ sym (append-nil a.seen.items));
      distinct = λ k. subst D (sym (ap (λ v. v.items) seen)) k;
    }

-- one more route on the way
route_stays : (a b : Gathered) (q : Cidr) → b.seen.items ≡ a.seen.items ++ q ∷ [] → b.hosts ≡ a.hosts → b.cpu ≡ a.cpu → b.discard ≡ a.discard → (m : Lead) → Holds a m → Holds b m
route_stays a b q seen hosts cpu discard (direct h) has = rw hosts has
route_stays a b q seen hosts cpu discard (onward r) has = let P : List Cidr → Type 0 = λ l. Contains l r in subst P (sym seen) (Contains-append_left a.seen.items (q ∷ []) r has)
route_stays a b q seen hosts cpu discard to_cpu has = cpu ∙ has
route_stays a b q seen hosts cpu discard dropped has = discard ∙ has
route_stays a b q seen hosts cpu discard nothing has = tt

route_only : (a b : Gathered) (q : Cidr) → b.seen.items ≡ a.seen.items ++ q ∷ [] → b.hosts ≡ a.hosts → b.cpu ≡ a.cpu → b.discard ≡ a.discard → (m : Lead) → Holds b m → Holds a m ⊎ (m ≡ onward q)
route_only a b q seen hosts cpu discard (direct h) has = inl (rw (← hosts) has)
route_only a b q seen hosts cpu discard (onward r) has =
    let P : List Cidr → Type 0 = λ l. Contains l r in
    elim (Contains-push_cases a.seen.items q r (subst P seen has)) [ inl old ↦ inl old | inr same ↦ inr (ap onward (sym same)) ]
route_only a b q seen hosts cpu discard to_cpu has = inl (sym cpu ∙ has)
route_only a b q seen hosts cpu discard dropped has = inl (sym discard ∙ has)
route_only a b q seen hosts cpu discard nothing has = inl tt

pub grows_route : (a b : Gathered) (q : Cidr) → b.seen.items ≡ a.seen.items ++ q ∷ [] → b.hosts ≡ a.hosts → b.cpu ≡ a.cpu → b.discard ≡ a.discard → (Contains a.seen.items q → ⊥) → (x : Lead) → x ≡ onward q → Grows a b (λ m. m ≡ x)
grows_route a b q seen hosts cpu discard new x is =
    let P : List Cidr → Type 0 = λ l. Contains l q in
    let D : List Cidr → Type 0 = λ l. IsDistinct l in
    let Q : Lead → Type 0 = λ m. Holds b m in
    record {
      stays = route_stays a b q seen hosts cpu discard;
      takes = λ m e. subst Q (sym (e ∙ is)) (subst P (sym seen) (Contains-push a.seen.items q));
      only = λ m h. elim (route_only a b q seen hosts cpu discard m h) [ inl old ↦ inl old | inr e ↦ inr (e ∙ sym is) ];
      queue = (q ∷ [], seen);
      distinct = λ k. subst D (sym seen) (distinct_push a.seen.items q k new);
    }

-- whether a route was met before
tied_same : (o : Ordering) → is_eq o ≡ true → o ≡ Equal
tied_same Less h = absurd (cc)
tied_same Equal h = refl
tied_same Greater h = absurd (cc)

pub there : (xs ys : List Cidr) (q : Cidr) (found : Bool) → ys ≡ xs → found ≡ list_any (same_addr q) ys → found ≡ true → Contains xs q
there xs ys q found same is met =
    let at = Any-from_list_any (same_addr q) xs (ap (list_any (same_addr q)) (sym same) ∙ sym is ∙ met) in
    let one : q ≡ at.1 = prefix_order.exact q at.1 (tied_same (prefix_cmp q at.1) at.4) in
    let P : Cidr → Type 0 = λ x. Contains xs x in
    subst P (sym one) (at.0, at.2, at.3)

pub not_there : (xs ys : List Cidr) (q : Cidr) (found : Bool) → ys ≡ xs → found ≡ list_any (same_addr q) ys → found ≡ false → Contains xs q → ⊥
not_there xs ys q found same is unmet has =
    let tied : same_addr q q ≡ true = ap is_eq (tied_itself prefix_order.total q) in
    let met : found ≡ true = is ∙ ap (list_any (same_addr q)) same ∙ list_any-from_Any (same_addr q) xs (has.0, q, has.1, has.2, tied) in
    cc

-- an end, or what is there already
grows_there : (a : Gathered) (x : Lead) → Holds a x → Grows a a (λ m. m ≡ x)
grows_there a x here = let Q : Lead → Type 0 = λ m. Holds a m in record {
  stays = λ m h. h;
  takes = λ m e. subst Q (sym e) here;
  only = λ m h. inl h;
  queue = ([], sym (append-nil a.seen.items));
  distinct = λ k. k;
}

pub grows_met : (a : Gathered) (q : Cidr) (x : Lead) → x ≡ onward q → Contains a.seen.items q → Grows a a (λ m. m ≡ x)
grows_met a q x is here = let Q : Lead → Type 0 = λ m. Holds a m in grows_there a x (subst Q (sym is) here)

-- the start, or nothing, or what the start reaches
pub data HasCause (rib : Rib) (vrf : ℕ) (start : Cidr) (m : Lead) : Type 0 where
  is_start : m ≡ onward start → HasCause rib vrf start m
  is_nothing : m ≡ nothing → HasCause rib vrf start m
  is_reached : Reaches rib vrf start m → HasCause rib vrf start m

-- what is gathered once `done` of the routes on the way were followed
pub record IsAt (rib : Rib) (vrf : ℕ) (start : Cidr) (done : ℕ) (all : Gathered) : Type 0 where
  pub within : done ≤ length all.seen.items
  pub first : Contains all.seen.items start
  pub distinct : IsDistinct all.seen.items
  pub sound : (m : Lead) → Holds all m → HasCause rib vrf start m
  pub complete : (k : ℕ) (d : Cidr) → k < done → (m : Lead) → Contains (leads rib vrf (get_or all.seen.items k d)) m → Holds all m

chain_more : (rib : Rib) (vrf : ℕ) (p : Cidr) (members : List Cidr) (q r : Cidr) → IsChain rib vrf p members q → Contains (leads rib vrf q) (onward r) → IsChain rib vrf p (members ++ r ∷ []) r
chain_more rib vrf p [] q r e given = let P : Cidr → Type 0 = λ x. Contains (leads rib vrf x) (onward r) in (subst P (sym e) given, refl)
chain_more rib vrf p (s ∷ ss) q r chain given = (chain.0, chain_more rib vrf s ss q r chain.1 given)

reaches_more : (rib : Rib) (vrf : ℕ) (p q : Cidr) (m : Lead) → Reaches rib vrf p (onward q) → Contains (leads rib vrf q) m → Reaches rib vrf p m
reaches_more rib vrf p q m r given = record { last = q; members = r.members ++ q ∷ []; chain = chain_more rib vrf p r.members r.last q r.chain r.given; given = given }

cause_then : (rib : Rib) (vrf : ℕ) (start q : Cidr) → HasCause rib vrf start (onward q) → (m : Lead) → Contains (leads rib vrf q) m → Reaches rib vrf start m
cause_then rib vrf start q (is_start e) m given = let same : q ≡ start = cc in let P : Cidr → Type 0 = λ x. Contains (leads rib vrf x) m in reaches_first rib vrf start m (subst P same given)
cause_then rib vrf start q (is_nothing e) m given = absurd (cc)
cause_then rib vrf start q (is_reached r) m given = reaches_more rib vrf start q m r given

pub at_more : (rib : Rib) (vrf : ℕ) (start : Cidr) (done : ℕ) (q : Cidr) (a b : Gathered) → IsAt rib vrf start done a → done < length a.seen.items → q ≡ get_or a.seen.items done q → Grows a b (Contains (leads rib vrf q)) → IsAt rib vrf start (done + 1) b
at_more rib vrf start done q a b at lt is g =
    let kept_place : (k : ℕ) (d : Cidr) → k < length a.seen.items → get_or b.seen.items k d ≡ get_or a.seen.items k d =
    λ k d l. ap (λ s. get_or s k d) g.queue.1 ∙ get_or_append_left a.seen.items g.queue.0 d k l in
    let on_way : Contains a.seen.items q = (done, lt, sym is) in
    record {
      within = omega (arith, ap length g.queue.1, length-append a.seen.items g.queue.0);
      first = g.stays (onward start) at.first;
      distinct = g.distinct at.distinct;
      sound = λ m h. elim (g.only m h) [ inl old ↦ at.sound m old | inr given ↦ is_reached (cause_then rib vrf start q (at.sound (onward q) on_way) m given) ];
      complete = λ k d l m given.
          let P : Cidr → Type 0 = λ x. Contains (leads rib vrf x) m in
          let below : k < length a.seen.items = omega arith in
          let old_given : Contains (leads rib vrf (get_or a.seen.items k d)) m = subst P (kept_place k d below) given in
          elim (cases_lt k done) [
            | inl before ↦ g.stays m (at.complete k d before m old_given)
            | inr here ↦
                let same : k ≡ done = omega arith in
                g.takes m (subst P (ap (λ i. get_or a.seen.items i d) same ∙ sym (get_or_read a.seen.items done q lt is d)) old_given)
          ];
    }

reached-as : (rib : Rib) (vrf : ℕ) (start : Cidr) (m : Lead) → HasCause rib vrf start m → (m ≡ onward start → ⊥) → (m ≡ nothing → ⊥) → Reaches rib vrf start m
reached-as rib vrf start m (is_start e) not none = absurd (not e)
reached-as rib vrf start m (is_nothing e) not none = absurd (none e)
reached-as rib vrf start m (is_reached r) not none = r

chain_stays : (rib : Rib) (vrf : ℕ) (all : Gathered) → ((q r : Cidr) → Holds all (onward q) → Contains (leads rib vrf q) (onward r) → Holds all (onward r)) → (p : Cidr) (members : List Cidr) (q : Cidr) → IsChain rib vrf p members q → Holds all (onward p) → Holds all (onward q)
chain_stays rib vrf all passes p [] q e here = let P : Cidr → Type 0 = λ x. Holds all (onward x) in subst P e here
chain_stays rib vrf all passes p (r ∷ rs) q chain here = chain_stays rib vrf all passes r rs q chain.1 (passes p r here chain.0)

pub at_end : (rib : Rib) (vrf : ℕ) (start : Cidr) (done : ℕ) (all : Gathered) → IsAt rib vrf start done all → length all.seen.items ≤ done → AreEnds rib vrf start all.hosts.items all.cpu all.discard
at_end rib vrf start done all at over =
    let closed : (q : Cidr) (m : Lead) → Holds all (onward q) → Contains (leads rib vrf q) m → Holds all m =
    λ q m on_way given. let P : Cidr → Type 0 = λ x. Contains (leads rib vrf x) m in let k_below : on_way.0 < length all.seen.items = on_way.1 in at.complete on_way.0 q (omega arith) m (subst P (sym on_way.2) given) in
    let has : (m : Lead) → Reaches rib vrf start m → Holds all m =
    λ m r. closed r.last m (chain_stays rib vrf all (λ q s h g. closed q (onward s) h g) start r.members r.last r.chain at.first) r.given in
    record {
      by_host = λ h. (λ held. reached-as rib vrf start (direct h) (at.sound (direct h) held) (λ e. cc) (λ e. cc), has (direct h));
      by_cpu = (λ held. reached-as rib vrf start to_cpu (at.sound to_cpu held) (λ e. cc) (λ e. cc), has to_cpu);
      by_drop = (λ held. reached-as rib vrf start dropped (at.sound dropped held) (λ e. cc) (λ e. cc), has dropped);
    }

-- the routes on the way are routes of the state, so there are no more of them
on_way_routed : (rib : Rib) (vrf : ℕ) (start q : Cidr) → HasHops rib vrf start → HasCause rib vrf start (onward q) → Contains (map route_prefix rib.routes) q
on_way_routed rib vrf start q has (is_start e) = let same : q ≡ start = cc in let P : Cidr → Type 0 = λ x. Contains (map route_prefix rib.routes) x in subst P (sym same) (has_hops-routed rib vrf start has)
on_way_routed rib vrf start q has (is_nothing e) = absurd (cc)
on_way_routed rib vrf start q has (is_reached r) = has_hops-routed rib vrf q (followed-has_hops rib vrf r.last q r.given)

pub few_seen : (rib : Rib) (vrf : ℕ) (start : Cidr) (done : ℕ) (all : Gathered) → IsAt rib vrf start done all → HasHops rib vrf start → length all.seen.items ≤ length rib.routes
few_seen rib vrf start done all at has =
    let few : length all.seen.items ≤ length (map route_prefix rib.routes) =
    few_distinct all.seen.items (map route_prefix rib.routes) at.distinct (λ q h. on_way_routed rib vrf start q has (at.sound (onward q) h)) in
    omega (arith, few, length-map rib.routes route_prefix)

start_sound : (rib : Rib) (vrf : ℕ) (start : Cidr) (all : Gathered) → all.seen.items ≡ start ∷ [] → all.hosts.items ≡ [] → all.cpu ≡ false → all.discard ≡ false → (m : Lead) → Holds all m → HasCause rib vrf start m
start_sound rib vrf start all seen hosts cpu discard (direct h) has = let P : List HostKey → Type 0 = λ l. Contains l h in absurd (contains_none h (subst P hosts has))
start_sound rib vrf start all seen hosts cpu discard (onward q) has =
    let P : List Cidr → Type 0 = λ l. Contains l q in
    elim (contains_cases start [] q (subst P seen has)) [ inl e ↦ is_start (ap onward e) | inr rest ↦ absurd (contains_none q rest) ]
start_sound rib vrf start all seen hosts cpu discard to_cpu has = absurd (cc)
start_sound rib vrf start all seen hosts cpu discard dropped has = absurd (cc)
start_sound rib vrf start all seen hosts cpu discard nothing has = is_nothing refl

pub at_start : (rib : Rib) (vrf : ℕ) (start : Cidr) (all : Gathered) → all.seen.items ≡ start ∷ [] → all.hosts.items ≡ [] → all.cpu ≡ false → all.discard ≡ false → IsAt rib vrf start 0 all
at_start rib vrf start all seen hosts cpu discard =
    let P : List Cidr → Type 0 = λ l. Contains l start in
    let D : List Cidr → Type 0 = λ l. IsDistinct l in
    record {
      within = omega arith;
      first = subst P (sym seen) (contains_first start []);
      distinct = subst D (sym seen) ((λ has. contains_none start has), tt);
      sound = start_sound rib vrf start all seen hosts cpu discard;
      complete = λ k d lt m given. absurd (omega arith);
    }
