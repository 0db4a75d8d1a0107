-- What the scans of a plain state make of the definitions.
use Rattle.std.proofs.Common.{◌≡◌, ◌<◌, ◌+◌, ℕ, Bool, true, false, Option, Some, List, [], ◌∷◌, ◌++◌, ◌==◌, ◌&&◌, length, get_or, take, map, if◌then◌else◌, append-nil, refl, sym, ap, ◌∙◌}
use Rattle.std.specs.List.{filter, flat_map, fold, reduce}
use Rattle.std.specs.Cmp.{IsTotalOrder}
use Rattle.std.specs.Option.{option_and_then}
use Rattle.std.specs.declared.cmp.Ordering.{Ordering}
use Rattle.std.proofs.lemmas.List.{take_more}
use Rattle.std.proofs.lemmas.List.Elements.{filter-append}
use Rattle.keyed.specs.Keyed.{at, put, without}
use Rattle.keyed.specs.Least.{least_of}
use Rattle.keyed.specs.LeastLaws.{least_of-set}
use Rattle.net_types.specs.declared.ip.Ip.{Ip}
use Rattle.net_types.specs.declared.table.RouteKey.{RouteKey}
use Rattle.net_types.specs.KeyOrder.{route_cmp, route_order}
use Rattle.net_types.specs.Prefix.{contains}
use Rattle.switch_model.specs.declared.key.RibKey.{RibKey}
use Rattle.switch_model.specs.declared.record.RouteRec.{RouteRec}
use Rattle.switch_model.specs.BestRoute.{nearer}
use Rattle.switch_model.specs.Looking.{is_past, key_after}
use Rattle.switch_model.specs.LongestMatch.{longest_match, with_best, best_keys, connected_keys, routed_key}
use Rattle.switch_model.specs.PlainState.{PlainState, Rib}
use Rattle.plain_looker.specs.Scan.{longest_cmp, nearer_or}
use Rattle.plain_looker.specs.ScanLaws.{longest-least}

pub longest-by : (rib : Rib) (vrf : ℕ) (ip : Ip) (key : Option RouteKey) → key ≡ least_of longest_cmp (λ k. (k.vrf == vrf) && contains k.prefix ip) (flat_map connected_keys rib.intfs ++ map routed_key rib.routes) → option_and_then (λ k. with_best rib vrf k.prefix) key ≡ longest_match rib vrf ip
longest-by rib vrf ip key is = ap (option_and_then (λ k. with_best rib vrf k.prefix)) (is ∙ sym (longest-least (λ k. (k.vrf == vrf) && contains k.prefix ip) (flat_map connected_keys rib.intfs ++ map routed_key rib.routes)))

pub after-by : (rib : Rib) (from key : Option RouteKey) → key ≡ least_of route_cmp (is_past from) (flat_map connected_keys rib.intfs ++ map routed_key rib.routes) → key ≡ key_after from (best_keys rib)
after-by rib from key is = is ∙ least_of-set route_cmp route_order (is_past from) (flat_map connected_keys rib.intfs ++ map routed_key rib.routes)

pub with_routes-as : (f : List (RibKey × RouteRec) → List (RibKey × RouteRec)) (before now : PlainState) (l : List (RibKey × RouteRec)) → before ≡ now → l ≡ f before.routes → record before { routes = l } ≡ record now { routes = f now.routes }
with_routes-as f before now l is_before is = ap (λ (r : List (RibKey × RouteRec)). record before { routes = r }) is ∙ ap (λ (m : PlainState). record m { routes = f m.routes }) is_before

-- one more route
fold_last : {A : Type 0} (f : A → A → A) (a : A) (xs : List A) (x : A) → fold f a (xs ++ x ∷ []) ≡ f (fold f a xs) x
fold_last f a [] x = refl
fold_last f a (y ∷ ys) x = fold_last f (f a y) ys x

nearer_last : (es : List (RibKey × RouteRec)) (e : RibKey × RouteRec) → reduce nearer (es ++ e ∷ []) ≡ nearer_or (reduce nearer es) e
nearer_last [] e = refl
nearer_last (d ∷ ds) e = ap Some (fold_last nearer d ds e)

one_more : (b : Bool) (es : List (RibKey × RouteRec)) (e : RibKey × RouteRec) → reduce nearer (es ++ (if b then e ∷ [] else [])) ≡ (if b then nearer_or (reduce nearer es) e else reduce nearer es)
one_more true es e = nearer_last es e
one_more false es e = ap (reduce nearer) (append-nil es)

pub nearest_more : (test : RibKey × RouteRec → Bool) (es : List (RibKey × RouteRec)) (i : ℕ) (e : RibKey × RouteRec) (found new : Option (RibKey × RouteRec)) → i < length es → e ≡ get_or es i e → found ≡ reduce nearer (filter test (take i es)) → new ≡ (if test e then nearer_or found e else found) → new ≡ reduce nearer (filter test (take (i + 1) es))
nearest_more test es i e found new within read before step =
    let more : filter test (take (i + 1) es) ≡ filter test (take i es) ++ filter test (e ∷ []) =
    ap (filter test) (take_more es i e within ∙ ap (λ x. take i es ++ x ∷ []) (sym read)) ∙ filter-append test (take i es) (e ∷ []) in
    step ∙ ap (λ o. if test e then nearer_or o e else o) before ∙ sym (one_more (test e) (filter test (take i es)) e) ∙ ap (reduce nearer) (sym more)

-- entries by an order that agrees with another at each pair
module _ {K : Type 0} {R : K → K → Ordering} (total : IsTotalOrder R) (S : K → K → Ordering) (agrees : (x y : K) → R x y ≡ S x y) where
  one_order : R ≡ S
  one_order = λ i x y. agrees x y i

  module _ {V : Type 0} where
    pub at-as : (k : K) (l : List (K × V)) → at R k l ≡ at S k l
    at-as k l = ap (λ (T : K → K → Ordering). at T k l) one_order

    pub put-as : (k : K) (v : V) (l : List (K × V)) → put R k v l ≡ put S k v l
    put-as k v l = ap (λ (T : K → K → Ordering). put T k v l) one_order

    pub without-as : (k : K) (l : List (K × V)) → without R k l ≡ without S k l
    without-as k l = ap (λ (T : K → K → Ordering). without T k l) one_order
