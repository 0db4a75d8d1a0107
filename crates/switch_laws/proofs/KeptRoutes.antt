-- Acts on routes keep a linked state linked.
use Rattle.std.proofs.Common.{◌≡◌, ◌≤◌, ◌+◌, ◌==◌, ◌||◌, ℕ, Bool, false, not, List, [], ◌∷◌, suc, length, refl, arith}
use Rattle.std.specs.Prelude.{nat_lt}
use Rattle.std.specs.List.{list_any, filter, AllByRecursion}
use Rattle.std.specs.List.Sorted.{IsStrictlySortedBy}
use Rattle.std.specs.Ordering.{eq_by_cmp}
use Rattle.std.specs.declared.cmp.Ordering.{Ordering}
use Rattle.std.specs.declared.cmp.Ordering.TheVariants.{Less}
use Rattle.std.proofs.lemmas.Bool.{or_parts, or_from, ltb-false, le-ltb, ne_eqb}
use Rattle.keyed.specs.Keyed.{Ascends, put, without}
use Rattle.keyed.specs.KeyedLaws.{by_order, ascends-put, ascends-without}
use Rattle.keyed.specs.SetLaws.{ascends-set_of, contains_set_of}
use Rattle.keyed.specs.Sets.{insert, set_of}
use Rattle.keyed.specs.Every.{Every}
use Rattle.keyed.specs.EveryLaws.{every-put, every-without}
use Rattle.keyed.specs.ListLaws.{any_false, false_any}
use Rattle.keyed.specs.Tests.{NoneHolds}
use Rattle.keyed.specs.FilterLaws.{ascends-filter_entries, every-filter}
use Rattle.net_types.specs.declared.client.Client.{Client}
use Rattle.net_types.specs.declared.hop.Hop.{Hop}
use Rattle.net_types.specs.Address.{ip_width}
use Rattle.net_types.specs.Cidr.{Cidr}
use Rattle.net_types.specs.KeyOrder.{hop_cmp, hop_order}
use Rattle.switch_model.specs.declared.act.Act.TheVariants.{RouteSet, RouteDel, ClientSync}
use Rattle.switch_model.specs.declared.key.RibKey.{RibKey}
use Rattle.switch_model.specs.declared.record.RouteRec.{RouteRec}
use Rattle.switch_model.specs.declared.via.Via.{Via}
use Rattle.switch_model.specs.declared.via.Via.TheVariants.{Hops, ToCpu, Discard}
use Rattle.switch_model.specs.Effect.{effect, route_of, is_route_of, with_routes}
use Rattle.switch_model.specs.Hops.{is_mixed, lacks_hops, has_too_many, has_double, has_double_hop}
use Rattle.switch_model.specs.PlainState.{PlainState}
use Rattle.switch_model.specs.Reason.{reasons, hop_reasons}
use Rattle.switch_model.specs.Facts.{is_interface}
use Rattle.switch_model.specs.StateKeys.{rib_cmp, rib_order}
use Rattle.switch_laws.proofs.OtherPart.{other_routes}
use Rattle.switch_laws.specs.Linked.{IsLinked, IsKept, IsRoute}

not_zero : (n : ℕ) → (suc n == 0) ≡ false
not_zero n = ne_eqb (suc n) 0 (λ e. omega arith)

-- the set of a list's keys: none twice, no more than the list has, and some where it has some
module _ {K : Type 0} (cmp : K → K → Ordering) where
  length-insert : (k : K) (xs : List K) → length (insert cmp k xs) ≤ length xs + 1
  length-insert k [] = omega arith
  length-insert k (x ∷ xs) = by_order (cmp k x) (λ o. rw o (omega arith)) (λ o. rw o (omega arith)) (λ o. rw o (omega (arith, length-insert k xs)))

  length-set : (ks : List K) → length (set_of cmp ks) ≤ length ks
  length-set [] = omega arith
  length-set (k ∷ ks) = omega (arith, length-insert k (set_of cmp ks), length-set ks)

  insert-some : (k : K) (xs : List K) → (length (insert cmp k xs) == 0) ≡ false
  insert-some k [] = refl
  insert-some k (x ∷ xs) = by_order (cmp k x) (λ o. rw o (not_zero (length (x ∷ xs)))) (λ o. rw o (not_zero (length xs))) (λ o. rw o (not_zero (length (insert cmp k xs))))

  set-some : (ks : List K) → (length ks == 0) ≡ false → (length (set_of cmp ks) == 0) ≡ false
  set-some [] h = h
  set-some (k ∷ ks) h = insert-some k (set_of cmp ks)

  none_equal : (k : K) (xs : List K) → AllByRecursion (λ y. cmp k y ≡ Less) xs → list_any (eq_by_cmp cmp k) xs ≡ false
  none_equal k [] all = refl
  none_equal k (x ∷ xs) all = or_from (eq_by_cmp cmp k x) (list_any (eq_by_cmp cmp k) xs) (rw all.0 refl) (none_equal k xs all.1)

  pub none_double : (ks : List K) → IsStrictlySortedBy cmp ks → has_double cmp ks ≡ false
  unfolding IsStrictlySortedBy
  none_double [] asc = refl
  none_double (k ∷ ks) asc = or_from (list_any (eq_by_cmp cmp k) ks) (has_double cmp ks) (none_equal k ks asc.0) (none_double ks asc.1)

alone : (b : Bool) → (b || false) ≡ false → b ≡ false
alone b h = (or_parts b false h).0

lone : (b : Bool) → b ≡ false → (b || false) ≡ false
lone b h = or_from b false h refl

-- a route that may be set is kept as one
pub kept_so : (prefix : Cidr) (via : Via) → NoneHolds (hop_reasons ((prefix, via) ∷ [])) → IsKept prefix (route_of via)
kept_so prefix (Hops hops) none =
    let set : List Hop = set_of hop_cmp hops in
    let mixed : Hop → Bool = λ hop. not (ip_width hop.ip == ip_width prefix.ip) in
    let one_family : list_any mixed set ≡ false = false_any mixed set (λ hop has. any_false mixed hops (alone (list_any mixed hops) none.0) hop (contains_set_of hop_cmp hop_order hops hop has)) in
    let few : length hops ≤ 32 = ltb-false 32 (length hops) (alone (nat_lt 32 (length hops)) none.1.1.0) in
    let not_many : nat_lt 32 (length set) ≡ false = le-ltb 32 (length set) (omega (arith, few, length-set hop_cmp hops)) in
    let ascends : IsStrictlySortedBy hop_cmp set = ascends-set_of hop_cmp hop_order.total hops in (
      ascends,
      (
        lone (list_any mixed set) one_family,
        (
          lone (length set == 0) (set-some hop_cmp hops (alone (length hops == 0) none.1.0)),
          (lone (nat_lt 32 (length set)) not_many, (lone (has_double hop_cmp set) (none_double hop_cmp set ascends), tt)),
        ),
      ),
    )
kept_so prefix ToCpu none = tt
kept_so prefix Discard none = tt

-- the first of several routes, and those after it
first_route : (r : Cidr × Via) (rs : List (Cidr × Via)) → NoneHolds (hop_reasons (r ∷ rs)) → NoneHolds (hop_reasons ((r.0, r.1) ∷ [])) × NoneHolds (hop_reasons rs)
first_route r rs none =
    let mixed = or_parts (is_mixed r.0 r.1) (list_any (λ (x : Cidr × Via). is_mixed x.0 x.1) rs) none.0 in
    let lacks = or_parts (lacks_hops r.1) (list_any (λ (x : Cidr × Via). lacks_hops x.1) rs) none.1.0 in
    let many = or_parts (has_too_many r.1) (list_any (λ (x : Cidr × Via). has_too_many x.1) rs) none.1.1.0 in
    let double = or_parts (has_double_hop r.1) (list_any (λ (x : Cidr × Via). has_double_hop x.1) rs) none.1.1.1.0 in (
      (lone (is_mixed r.0 r.1) mixed.0, (lone (lacks_hops r.1) lacks.0, (lone (has_too_many r.1) many.0, (lone (has_double_hop r.1) double.0, tt)))),
      (mixed.1, (lacks.1, (many.1, (double.1, tt)))),
    )

-- routes that are put one by one
put_all : (vrf : ℕ) (client : Client) (rs : List (Cidr × Via)) (l : List (RibKey × RouteRec)) → is_interface client ≡ false → NoneHolds (hop_reasons rs) → Ascends rib_cmp l → Every rib_cmp IsRoute l
    → Ascends rib_cmp (with_routes vrf client rs l) × Every rib_cmp IsRoute (with_routes vrf client rs l)
put_all vrf client [] l own none asc all = (asc, all)
put_all vrf client (r ∷ rs) l own none asc all =
    let key : RibKey = record { vrf = vrf; prefix = r.0; client = client } in
    let parts = first_route r rs none in
    put_all vrf client rs (put rib_cmp key (route_of r.1) l) own parts.1
    (ascends-put rib_cmp rib_order key (route_of r.1) l asc)
    (every-put rib_cmp rib_order IsRoute key (route_of r.1) l (own, kept_so r.0 r.1 parts.0) all)

pub route_set-kept : (m : PlainState) (vrf : ℕ) (prefix : Cidr) (client : Client) (via : Via) → NoneHolds (reasons m (RouteSet vrf prefix client via)) → IsLinked m → IsLinked (effect m (RouteSet vrf prefix client via))
route_set-kept m vrf prefix client via none is =
    let both = put_all vrf client ((prefix, via) ∷ []) m.routes none.0 none.1 is.in_order.routes is.routes in
    other_routes m (with_routes vrf client ((prefix, via) ∷ []) m.routes) is both.0 both.1

pub route_del-kept : (m : PlainState) (vrf : ℕ) (prefix : Cidr) (client : Client) → IsLinked m → IsLinked (effect m (RouteDel vrf prefix client))
route_del-kept m vrf prefix client is =
    let key : RibKey = record { vrf = vrf; prefix = prefix; client = client } in
    other_routes m (without rib_cmp key m.routes) is (ascends-without rib_cmp rib_order key m.routes is.in_order.routes) (every-without rib_cmp rib_order IsRoute key m.routes is.in_order.routes is.routes)

pub client_sync-kept : (m : PlainState) (vrf : ℕ) (client : Client) (routes : List (Cidr × Via)) → NoneHolds (reasons m (ClientSync vrf client routes)) → IsLinked m → IsLinked (effect m (ClientSync vrf client routes))
client_sync-kept m vrf client routes none is =
    let others : RibKey × RouteRec → Bool = λ e. not (is_route_of vrf client e.0) in
    let left : List (RibKey × RouteRec) = filter others m.routes in
    let hops : NoneHolds (hop_reasons routes) = (none.1.0, (none.1.1.0, (none.1.1.1.0, (none.1.1.1.1.0, tt)))) in
    let both = put_all vrf client routes left none.0 hops (ascends-filter_entries rib_cmp rib_order others m.routes is.in_order.routes) (every-filter rib_cmp rib_order others IsRoute m.routes is.in_order.routes is.routes) in
    other_routes m (with_routes vrf client routes left) is both.0 both.1
