-- The keys whose entries a change may touch, level by level.
use Rattle.std.proofs.Common.{◌≡◌, ◌<◌, ◌+◌, ◌*◌, ◌==◌, ◌&&◌, ◌||◌, not, ℕ, Bool, true, false, Option, None, Some, List, [], ◌∷◌, length, map, refl, sym, ap, ◌∙◌, subst, inl, inr, if◌then◌else◌, arith}
use Rattle.std.specs.List.{Contains, filter, list_any, reduce}
use Rattle.std.specs.Option.{is_none, is_some}
use Rattle.std.specs.Ordering.{eq_by_cmp, is_eq}
use Rattle.std.specs.declared.cmp.Ordering.{Ordering}
use Rattle.std.specs.declared.cmp.Ordering.TheVariants.{Less, Equal, Greater}
use Rattle.std.proofs.lemmas.Bool.{and_from, and_parts, cases_Bool}
use Rattle.std.proofs.lemmas.Bool.Decides.{Decides-eqb}
use Rattle.std.proofs.lemmas.Cmp.{tied_itself}
use Rattle.std.proofs.lemmas.List.Folds.{Any-from_list_any, list_any-from_Any}
use Rattle.keyed.specs.Members.{contains_filter, contains_first, contains_none, filter_contains, map_contains}
use Rattle.keyed.specs.ValueLaws.{among-at}
use Rattle.net_types.specs.declared.hop.Hop.{Hop}
use Rattle.net_types.specs.declared.ip.Ip.{Ip}
use Rattle.net_types.specs.declared.table.RouteKey.{RouteKey}
use Rattle.net_types.specs.Cidr.{Cidr}
use Rattle.net_types.specs.KeyOrder.{route_cmp, route_order}
use Rattle.net_types.specs.Prefix.{contains}
use Rattle.switch_model.specs.declared.key.RibKey.{RibKey}
use Rattle.switch_model.specs.declared.record.RouteRec.{RouteRec}
use Rattle.switch_model.specs.declared.record.RouteRec.TheVariants as kept
use Rattle.switch_model.specs.BestRoute.{BestRoute, best, connected, learnt}
use Rattle.switch_model.specs.LongestMatch.{longer}
use Rattle.switch_model.specs.PlainState.{Rib}
use Rattle.switch_model.specs.Reach.{hops_of_best}
use Rattle.switch_model.specs.StateKeys.{rib_cmp, rib_order}
use Rattle.route_laws.proofs.NearestLaws.{best-is}
use Rattle.route_laws.specs.Descent.{longest_key}
use Rattle.route_laws.specs.Entries.{AreInOrder}
use Rattle.route_laws.specs.Moved.{key_in, HasDependents}
use Rattle.route_laws.specs.Nearest.{IsBest}
use Rattle.fib_build.proofs.Keys.{filter_fewer}
use Rattle.rib_lookup.specs.Tables.{key_of_rib}
use Rattle.fib_refresh.specs.declared.affected.Level.{Level}
use Rattle.fib_refresh.specs.Affected.{has_hop_in, hops_of, lies_in, HasAll, HasCome, IsClosed, IsLevel}

-- no hop lies in one of no keys
and_false : (b : Bool) → (b && false) ≡ false
and_false true = refl
and_false false = refl

no_hop : (vrf : ℕ) (hops : List Hop) → list_any (lies_in [] vrf) hops ≡ false
no_hop vrf [] = refl
no_hop vrf (hop ∷ hops) = ap (λ (b : Bool). b || list_any (lies_in [] vrf) hops) (and_false (is_none hop.intf)) ∙ no_hop vrf hops

-- level by level
pub record IsGrowing (routes : List (RibKey × RouteRec)) (changed : List RouteKey) (level : Level) : Type 0 where
  pub has : (key : RouteKey) → Contains changed key → Contains level.keys key
  pub closed : level.grew ≡ false → IsClosed routes changed level.keys

pub growing-start : (routes : List (RibKey × RouteRec)) (changed keys : List RouteKey) (empty : Bool) (level : Level) → HasAll changed keys → level.keys ≡ keys → level.grew ≡ not empty → empty ≡ (length changed == 0) → IsGrowing routes changed level
growing-start routes changed keys empty level all same grew empty_is = record { has = in_level; closed = λ stays. by empty refl stays }
  where
    in_level : (key : RouteKey) → Contains changed key → Contains level.keys key
    in_level key h = subst (λ (l : List RouteKey). Contains l key) (sym same) ((all.exact key).1 h)

    nothing : (l : List RouteKey) → ((key : RouteKey) → Contains l key → ⊥) → l ≡ []
    nothing [] free = refl
    nothing (k ∷ ks) free = absurd (free k (contains_first k ks))

    none : (l : List RouteKey) → (length l == 0) ≡ true → l ≡ []
    none [] is = refl
    none (k ∷ ks) is = let none_there : length (k ∷ ks) ≡ 0 = (Decides-eqb (length (k ∷ ks)) 0).0 is in absurd (omega (arith, none_there))

    by : (b : Bool) → empty ≡ b → level.grew ≡ false → IsClosed routes changed level.keys
    by true is stays =
        let no_keys : keys ≡ [] = nothing keys (λ key h. contains_none key (subst (λ (l : List RouteKey). Contains l key) (none changed (sym empty_is ∙ is)) ((all.exact key).0 h))) in
        record {
          has = in_level;
          closed = λ e _ steps.
              let false_is_true : true ≡ false = sym steps ∙ ap (λ (l : List RouteKey). has_hop_in l e.0 e.1) (same ∙ no_keys) ∙ no_hop e.0.vrf (hops_of e.1) in
              absurd (cc);
        }
    by false is stays = let false_is_true : true ≡ false = sym (grew ∙ ap not is) ∙ stays in absurd (cc)

pub growing-more : (routes : List (RibKey × RouteRec)) (changed : List RouteKey) (level next : Level) → IsGrowing routes changed level → IsLevel routes level.keys next → IsGrowing routes changed next
growing-more routes changed level next so_far step = record {
  has = λ key h. step.kept key (so_far.has key h);
  closed = λ not. record {
    has = λ key h. step.kept key (so_far.has key h);
    closed = λ e among steps. step.taken e among (ap (λ (l : List RouteKey). has_hop_in l e.0 e.1) (sym (step.same not)) ∙ steps);
  };
}

-- fewer routes' keys are missing
abbrev pub missing : List RouteKey → List RouteKey → List RouteKey
missing keys listed = filter (λ k. not (list_any (eq_by_cmp route_cmp k) listed)) keys

abbrev pub left : List (RibKey × RouteRec) → Level → ℕ
left routes level = length (missing (map (λ e. key_of_rib e.0) routes) level.keys) * 2 + (if level.grew then 1 else 0)

tied_same : (o : Ordering) → is_eq o ≡ true → o ≡ Equal
tied_same Less h = absurd (cc)
tied_same Equal h = refl
tied_same Greater h = absurd (cc)

listed-has : (key : RouteKey) (keys : List RouteKey) → list_any (eq_by_cmp route_cmp key) keys ≡ true → Contains keys key
listed-has key keys holds =
    let at = Any-from_list_any (eq_by_cmp route_cmp key) keys holds in
    let is : key ≡ at.1 = route_order.exact key at.1 (tied_same (route_cmp key at.1) at.4) in
    subst (λ (k : RouteKey). Contains keys k) (sym is) (at.0, at.2, at.3)

has-listed : (key : RouteKey) (keys : List RouteKey) → Contains keys key → list_any (eq_by_cmp route_cmp key) keys ≡ true
has-listed key keys has = list_any-from_Any (eq_by_cmp route_cmp key) keys (has.0, key, has.1, has.2, ap is_eq (tied_itself route_order.total key))

not_true : (b : Bool) → not b ≡ true → b ≡ false
not_true true h = absurd (cc)
not_true false h = refl

pub missing_fewer : (routes : List (RibKey × RouteRec)) (old new : List RouteKey) → ((key : RouteKey) → Contains old key → Contains new key) → HasCome routes old new → length (missing (map (λ e. key_of_rib e.0) routes) new) < length (missing (map (λ e. key_of_rib e.0) routes) old)
missing_fewer routes old new kept c =
    let key : RouteKey = key_of_rib c.route.0 in
    filter_fewer (λ k. not (list_any (eq_by_cmp route_cmp k) new)) (λ k. not (list_any (eq_by_cmp route_cmp k) old)) (map (λ e. key_of_rib e.0) routes)
    (λ k free. elim (cases_Bool (list_any (eq_by_cmp route_cmp k) old)) [
      | inl holds ↦ let no : true ≡ false = sym (has-listed k new (kept k (listed-has k old holds))) ∙ not_true (list_any (eq_by_cmp route_cmp k) new) free in absurd (cc)
      | inr fails ↦ ap not fails
    ])
    key (map_contains (λ e. key_of_rib e.0) routes c.route c.among)
    (elim (cases_Bool (list_any (eq_by_cmp route_cmp key) old)) [ inl holds ↦ absurd (c.absent (listed-has key old holds)) | inr fails ↦ ap not fails ])
    (ap not (has-listed key new c.here))

pub level-fewer : (routes : List (RibKey × RouteRec)) (level next : Level) → IsLevel routes level.keys next → level.grew ≡ true → left routes next < left routes level
level-fewer routes level next step grew = by next.grew refl
  where
    by : (b : Bool) → next.grew ≡ b → left routes next < left routes level
    by true is = let less = missing_fewer routes level.keys next.keys step.kept (step.came is) in rw (is, grew) (omega (arith, less))
    by false is = rw (is, grew, step.same is) (omega arith)

-- a key that contains the ip is matched
some_reduce : {A : Type 0} (f : A → A → A) (xs : List A) (x : A) → Contains xs x → is_some (reduce f xs) ≡ true
some_reduce f [] x has = absurd (contains_none x has)
some_reduce f (y ∷ ys) x has = refl

matched : (keys : List RouteKey) (vrf : ℕ) (ip : Ip) (other : Cidr) → Contains keys (key_in vrf other) → contains other ip ≡ true → is_some (longest_key vrf ip keys) ≡ true
matched keys vrf ip other has inside = some_reduce longer (filter (λ k. (k.vrf == vrf) && contains k.prefix ip) keys) (key_in vrf other) (filter_contains (λ k. (k.vrf == vrf) && contains k.prefix ip) keys (key_in vrf other) has (and_from (vrf == vrf) (contains other ip) ((Decides-eqb vrf vrf).1 refl) inside))

-- a hop that lies in one of the keys lies in one of its VRF
first_of : (vrf : ℕ) (p : RouteKey → Bool) (keys : List RouteKey) → is_some (reduce longer (filter (λ k. (k.vrf == vrf) && p k) keys)) ≡ true → (k : RouteKey) × Contains keys k × (k.vrf ≡ vrf)
first_of vrf p keys some = by (filter (λ k. (k.vrf == vrf) && p k) keys) refl some
  where
    by : (found : List RouteKey) → filter (λ k. (k.vrf == vrf) && p k) keys ≡ found → is_some (reduce longer found) ≡ true → (k : RouteKey) × Contains keys k × (k.vrf ≡ vrf)
    by [] is none = absurd (cc)
    by (k ∷ ks) is _ =
        let at = contains_filter (λ x. (x.vrf == vrf) && p x) keys k (subst (λ (l : List RouteKey). Contains l k) (sym is) (contains_first k ks)) in
        (k, at.0, (Decides-eqb k.vrf vrf).0 (and_parts (k.vrf == vrf) (p k) at.1).0)

pub key_of_vrf : (keys : List RouteKey) (key : RibKey) (route : RouteRec) → has_hop_in keys key route ≡ true → (k : RouteKey) × Contains keys k × (k.vrf ≡ key.vrf)
key_of_vrf keys key route steps =
    let at = Any-from_list_any (lies_in keys key.vrf) (hops_of route) steps in
    first_of key.vrf (λ k. contains k.prefix at.1.ip) keys (and_parts (is_none at.1.intf) (is_some (longest_key key.vrf at.1.ip keys)) at.4).1

-- the keys have, with a key, each one that depends on it
pub closed-dependents : (rib : Rib) (changed keys : List RouteKey) → AreInOrder rib → IsClosed rib.routes changed keys → HasDependents rib (Contains keys)
closed-dependents rib changed keys order is = record {
  dependents = λ vrf prefix other hop has plain inside within. by vrf prefix other hop (best rib vrf prefix) refl has plain inside within;
}
  where
    by : (vrf : ℕ) (prefix other : Cidr) (hop : Hop) (b : Option BestRoute) → best rib vrf prefix ≡ b → Contains (hops_of_best b) hop → hop.intf ≡ None → contains other hop.ip ≡ true → Contains keys (key_in vrf other) → Contains keys (key_in vrf prefix)
    by vrf prefix other hop None b_is has plain inside within = absurd (contains_none hop has)
    by vrf prefix other hop (Some (connected intf)) b_is has plain inside within = absurd (contains_none hop has)
    by vrf prefix other hop (Some (learnt client kept.ToCpu)) b_is has plain inside within = absurd (contains_none hop has)
    by vrf prefix other hop (Some (learnt client kept.Discard)) b_is has plain inside within = absurd (contains_none hop has)
    by vrf prefix other hop (Some (learnt client (kept.Hops hops))) b_is has plain inside within =
        let key : RibKey = record { vrf = vrf; prefix = prefix; client = client } in
        let nearest = subst (λ (o : Option BestRoute). IsBest rib (key_in vrf prefix) o) b_is (best-is rib order (key_in vrf prefix)) in
        let at = among-at rib_cmp rib_order key (kept.Hops hops) rib.routes nearest.there in
        let lies : lies_in keys vrf hop ≡ true = and_from (is_none hop.intf) (is_some (longest_key vrf hop.ip keys)) (ap is_none plain) (matched keys vrf hop.ip other within inside) in
        is.closed (key, kept.Hops hops) (at.0, at.1.0, sym at.1.1) (list_any-from_Any (lies_in keys vrf) hops (has.0, hop, has.1, has.2, lies))
