-- Which keys an edit may move.
use Rattle.std.proofs.Common.{◌≡◌, ℕ, ◌<◌, true, false, Option, None, Some, List, [], ◌∷◌, length, refl, sym, ap, ◌∙◌, subst, inl, inr, arith}
use Rattle.std.specs.List.{All, Contains, filter}
use Rattle.std.specs.List.Sorted.{IsStrictlySortedBy}
use Rattle.std.specs.Option.{IsSome, option_map}
use Rattle.std.specs.Ordering.{nat_cmp}
use Rattle.std.proofs.lemmas.Bool.{cases_Bool}
use Rattle.std.proofs.lemmas.List.Elements.{All-contains}
use Rattle.keyed.specs.Cases.{none_some}
use Rattle.keyed.specs.Keyed.{at}
use Rattle.keyed.specs.KeyedLaws.{by_order, same_at}
use Rattle.keyed.specs.KeyOrders.{nat_order}
use Rattle.keyed.specs.Members.{contains_first, contains_later, contains_none, map_contains}
use Rattle.keyed.specs.SetLaws.{ascends-insert, insert_contains}
use Rattle.keyed.specs.Sets.{insert}
use Rattle.keyed.specs.ValueLaws.{among-at, at-among}
use Rattle.net_types.specs.declared.client.Client.{Client}
use Rattle.net_types.specs.declared.table.RouteKey.{RouteKey}
use Rattle.net_types.specs.KeyOrder.{route_cmp, route_order}
use Rattle.node_map.specs.Follows as map
use Rattle.node_map.specs.Map.{MapView}
use Rattle.node_map.specs.TreeNode.{Entries}
use Rattle.state_delta.specs.Change.{ChangeView, change_of}
use Rattle.state_delta.specs.Delta.{IsDelta}
use Rattle.state_keys.specs.KeyLaws.{intf_numbering, rib_numbering}
use Rattle.state_keys.specs.PartKeys.{intf_of, rib_number, rib_of, IsRib, IsRibNumber}
use Rattle.state_scan.specs.Listed.{listed}
use Rattle.state_scan.proofs.Listing.{ascends-listed, at_listed}
use Rattle.switch_model.specs.declared.key.RibKey.{RibKey}
use Rattle.switch_model.specs.declared.record.IntfRec.{IntfRec}
use Rattle.switch_model.specs.declared.record.RouteRec.{RouteRec}
use Rattle.switch_model.specs.BestRoute.{BestRoute, best}
use Rattle.switch_model.specs.LongestMatch.{best_keys}
use Rattle.switch_model.specs.Looking.{is_past, key_after}
use Rattle.switch_model.specs.PlainState.{Rib, rib}
use Rattle.switch_model.specs.Reach.{hops_of_best}
use Rattle.switch_model.specs.StateKeys.{rib_cmp, rib_order}
use Rattle.switch_state.specs.Edit.{EditView, IsEdit}
use Rattle.switch_state.specs.Follows.{Follows}
use Rattle.switch_state.specs.Plain.{plain}
use Rattle.switch_state.specs.StateView.{StateView}
use Rattle.switch_state.specs.Valid.{IsState}
use Rattle.route_laws.specs.Entries.{AreInOrder, connects_by}
use Rattle.switch_model.specs.Reach.{is_of_vrf}
use Rattle.route_laws.specs.Moved.{AreMoved, IsMoved}
use Rattle.route_laws.proofs.BestLaws.{has-best_keys}
use Rattle.route_laws.proofs.NearestLaws.{best-same}
use Rattle.rib_lookup.proofs.MapLaws.{each_route}
use Rattle.rib_lookup.specs.Tables.{key_of_rib, rib_over}
use Rattle.fib_build.proofs.Keys.{decide_has, past_more, not_past, below_or_same, filter_fewer}
use Rattle.fib_build.proofs.NextLaws.{next-of}
use Rattle.fib_moved.specs.Moving.{AreCandidates, AreThoseMoved, HasAdded, HasChanged, HasKeysOf, IsFirstOf}

-- what an edit's maps follow
pub edit-follows : (e : EditView) (old : StateView) → IsEdit e → e.base ≡ old → old.version < e.state.version → Follows old e.state
edit-follows e old edit is later = subst (λ (s : StateView). Follows s e.state) is (edit.follows (subst (λ (s : StateView). s.version < e.state.version) (sym is) later))

pub map-follows : {T : Type 0} (version : ℕ) {seen seen2 old new : MapView T} → seen ≡ old → seen2 ≡ new → map.FollowsAt version old.nodes new.nodes → map.Follows seen.nodes seen2.nodes
map-follows version {seen} {seen2} {old} {new} is is2 follows = (version, subst (λ (m : MapView _). map.FollowsAt version m.nodes seen2.nodes) (sym is) (subst (λ (m : MapView _). map.FollowsAt version old.nodes m.nodes) (sym is2) follows))

-- one look-up of a route
route_range : (k : RibKey) (v : RouteRec) (es : Entries RouteRec) → All (λ e. IsRibNumber e.0) es → at rib_cmp k (listed rib_of es) ≡ Some v → IsRib k
route_range k v es all is =
    let there = among-at rib_cmp rib_order k v (listed rib_of es) is in
    each_route es all k (map_contains (λ x. x.0) (listed rib_of es) (k, v) (there.0, there.1.0, sym there.1.1))

route_same : (k : RibKey) (old new : Entries RouteRec) → All (λ e. IsRibNumber e.0) old → All (λ e. IsRibNumber e.0) new → (IsRib k → at nat_cmp (rib_number k) old ≡ at nat_cmp (rib_number k) new) → at rib_cmp k (listed rib_of old) ≡ at rib_cmp k (listed rib_of new)
route_same k old new all all2 same = by (at rib_cmp k (listed rib_of old)) (at rib_cmp k (listed rib_of new)) refl refl
  where
    known : IsRib k → at rib_cmp k (listed rib_of old) ≡ at rib_cmp k (listed rib_of new)
    known range = at_listed rib_numbering k old range all ∙ ap (option_map (λ n. n.value)) (same range) ∙ sym (at_listed rib_numbering k new range all2)

    by : (o p : Option RouteRec) → at rib_cmp k (listed rib_of old) ≡ o → at rib_cmp k (listed rib_of new) ≡ p → at rib_cmp k (listed rib_of old) ≡ at rib_cmp k (listed rib_of new)
    by None None is is2 = is ∙ sym is2
    by (Some v) p is is2 = known (route_range k v old all is)
    by None (Some v) is is2 = known (route_range k v new all2 is2)

module _ (o n : StateView) (old_state : IsState o) (new_state : IsState n) (keys : List RouteKey) where
  in_order : (s : StateView) → IsState s → AreInOrder (rib (plain s))
  in_order s state = record { intfs = ascends-listed intf_numbering s.intfs.entries state.intfs.numbers state.intfs.ascends; routes = ascends-listed rib_numbering s.routes.entries state.routes.numbers state.routes.ascends }

  -- where no interface differs
  pub by-routes : ((key : ℕ) → at nat_cmp key o.intfs.entries ≡ at nat_cmp key n.intfs.entries) → HasChanged o.routes.entries n.routes.entries keys → AreCandidates (rib (plain o)) (rib (plain n)) keys
  by-routes same changed = record { ascend = changed.ascend; all = λ key moved. elim (decide_has key keys) [ inl has ↦ has | inr absent ↦ absurd (not_moved key absent moved) ] }
    where
      intfs_is : listed intf_of o.intfs.entries ≡ listed intf_of n.intfs.entries
      intfs_is = ap (listed intf_of) (same_at nat_cmp nat_order o.intfs.entries n.intfs.entries old_state.intfs.ascends new_state.intfs.ascends same)

      of_client : (key : RouteKey) → (Contains keys key → ⊥) → (client : Client) → at rib_cmp (record { vrf = key.vrf; prefix = key.prefix; client = client }) (listed rib_of o.routes.entries) ≡ at rib_cmp (record { vrf = key.vrf; prefix = key.prefix; client = client }) (listed rib_of n.routes.entries)
      of_client key absent client =
          let k : RibKey = record { vrf = key.vrf; prefix = key.prefix; client = client } in
          route_same k o.routes.entries n.routes.entries old_state.routes.numbers new_state.routes.numbers
          (λ range. changed.same (rib_number k) (λ has. absent (subst (λ (x : RibKey). Contains keys (key_of_rib x)) (rib_numbering.back k range) has)))

      not_moved : (key : RouteKey) → (Contains keys key → ⊥) → IsMoved (rib (plain o)) (rib (plain n)) key → ⊥
      not_moved key absent moved = elim moved [
        | inl other ↦ other (best-same (rib (plain o)) (rib (plain n)) (in_order o old_state) (in_order n new_state) key (of_client key absent) (λ intf. ap (λ (l : List (ℕ × IntfRec)). connects_by key intf (at nat_cmp intf l)) intfs_is))
        | inr hop ↦ hop.moved (ap (λ (l : List (ℕ × IntfRec)). is_of_vrf key.vrf (at nat_cmp hop.intf l)) intfs_is)
      ]

-- all keys that have a best route
none-from : {V : Type 0} (o : Option V) → (IsSome o → ⊥) → o ≡ None
none-from None _ = refl
none-from (Some v) not = absurd (not refl)

pub by-both : (old new : Rib) (keys : List RouteKey) → HasKeysOf (best_keys old) (best_keys new) keys → AreCandidates old new keys
by-both old new keys both = record { ascend = both.ascend; all = λ key moved. elim (decide_has key keys) [ inl has ↦ has | inr absent ↦ absurd (not_moved key absent moved) ] }
  where
    not_moved : (key : RouteKey) → (Contains keys key → ⊥) → IsMoved old new key → ⊥
    not_moved key absent moved =
        let no_old : best old key.vrf key.prefix ≡ None = none-from (best old key.vrf key.prefix) (λ some. absent (both.has key (inl (has-best_keys old key some)))) in
        let no_new : best new key.vrf key.prefix ≡ None = none-from (best new key.vrf key.prefix) (λ some. absent (both.has key (inr (has-best_keys new key some)))) in
        elim moved [
          | inl other ↦ other (no_old ∙ sym no_new)
          | inr hop ↦ contains_none hop.hop (subst (λ (b : Option BestRoute). Contains (hops_of_best b) hop.hop) no_new hop.has)
        ]

-- those of the candidates that are moved
pub moved-of : (old new : Rib) (keys moved : List RouteKey) → AreCandidates old new keys → AreThoseMoved old new keys moved → AreMoved old new moved
moved-of old new keys moved among those = record { ascend = those.ascend; exact = λ key. (λ has. ((those.exact key).0 has).1, λ is. (those.exact key).1 (among.all key is, is)) }

pub both-of : (xs ys none one two : List RouteKey) → HasAdded xs none one → HasAdded ys one two → HasKeysOf xs ys two
both-of xs ys none one two first second = record { ascend = second.ascend; has = λ key has. elim has [ inl x ↦ second.kept key (first.has key x) | inr y ↦ second.has key y ] }

-- the walk that adds keys: those up to the last one are there
pub record IsAdding (more before : List RouteKey) (last : Option RouteKey) (keys : List RouteKey) : Type 0 where
  pub ascend : IsStrictlySortedBy route_cmp keys
  pub kept : (key : RouteKey) → Contains before key → Contains keys key
  pub done : (key : RouteKey) → Contains more key → is_past last key ≡ false → Contains keys key

pub adding-start : (more before : List RouteKey) → IsStrictlySortedBy route_cmp before → IsAdding more before None before
adding-start more before asc = record { ascend = asc; kept = λ key has. has; done = λ key has not. let no : true ≡ false = not in absurd (cc) }

pub adding-more : (more before : List RouteKey) (last : Option RouteKey) (keys : List RouteKey) → IsStrictlySortedBy route_cmp more → IsAdding more before last keys → (key : RouteKey) → Some key ≡ key_after last more → (new : List RouteKey) → new ≡ insert route_cmp key keys → IsAdding more before (Some key) new
adding-more more before last keys asc so_far key next new is = rw is (record {
  ascend = ascends-insert route_cmp route_order.total key keys so_far.ascend;
  kept = λ k has. insert_contains route_cmp route_order key keys k (inr (so_far.kept k has));
  done = λ k has not. insert_contains route_cmp route_order key keys k (elim (below_or_same key k not) [
    | inl same ↦ inl same
    | inr below ↦ inr (elim (cases_Bool (is_past last k)) [
      | inl past ↦ let no : true ≡ false = sym ((next-of last more (Some key) asc next).first k has past) ∙ below in absurd (cc)
      | inr before_last ↦ so_far.done k has before_last
    ])
  ]);
})

pub adding-end : (more before : List RouteKey) (last : Option RouteKey) (keys : List RouteKey) → IsStrictlySortedBy route_cmp more → IsAdding more before last keys → None ≡ key_after last more → HasAdded more before keys
adding-end more before last keys asc so_far none = record {
  ascend = so_far.ascend;
  kept = so_far.kept;
  has = λ key has. elim (cases_Bool (is_past last key)) [
    | inl past ↦ absurd ((next-of last more None asc none) key has past)
    | inr before_last ↦ so_far.done key has before_last
  ];
}

pub adding-fewer : (more : List RouteKey) (last : Option RouteKey) → IsStrictlySortedBy route_cmp more → (key : RouteKey) → Some key ≡ key_after last more → length (filter (is_past (Some key)) more) < length (filter (is_past last) more)
adding-fewer more last asc key next =
    let f = next-of last more (Some key) asc next in
    filter_fewer (is_past (Some key)) (is_past last) more (λ k past. past_more last key k f.past past) key f.among f.past (not_past key)

-- the walk of the changes: what isn't left to come, and isn't listed, is the same in both
pub record IsListing (old new : Entries RouteRec) (left : List (ℕ × ChangeView RouteRec)) (keys : List RouteKey) : Type 0 where
  pub ascend : IsStrictlySortedBy route_cmp keys
  pub numbers : (e : ℕ × ChangeView RouteRec) → Contains left e → IsRibNumber e.0
  pub same : (n : ℕ) → at nat_cmp n left ≡ None → (Contains keys (key_of_rib (rib_of n)) → ⊥) → at nat_cmp n old ≡ at nat_cmp n new

number_at : {V : Type 0} (n : ℕ) (v : V) (es : List (ℕ × V)) → All (λ e. IsRibNumber e.0) es → at nat_cmp n es ≡ Some v → IsRibNumber n
number_at {V} n v es all is =
    let there = among-at nat_cmp nat_order n v es is in
    All-contains (λ (e : ℕ × V). IsRibNumber e.0) es (n, v) all (there.0, there.1.0, sym there.1.1)

pub listing-start : (old new : Entries RouteRec) (left : List (ℕ × ChangeView RouteRec)) (keys : List RouteKey) → All (λ e. IsRibNumber e.0) old → All (λ e. IsRibNumber e.0) new → IsDelta old new left → ((n : ℕ) → at nat_cmp n left ≡ None → at nat_cmp n old ≡ at nat_cmp n new) → IsStrictlySortedBy route_cmp keys → IsListing old new left keys
listing-start old new left keys all all2 delta unlisted asc = record {
  ascend = asc;
  numbers = λ e has. from e (at nat_cmp e.0 old) (at nat_cmp e.0 new) refl refl (sym (delta.each e.0) ∙ at-among nat_cmp nat_order e left delta.ascends (has.0, (has.1, sym has.2)));
  same = λ n none _. unlisted n none;
}
  where
    from : (e : ℕ × ChangeView RouteRec) (o p : Option _) → at nat_cmp e.0 old ≡ o → at nat_cmp e.0 new ≡ p → change_of (at nat_cmp e.0 old) (at nat_cmp e.0 new) ≡ Some e.1 → IsRibNumber e.0
    from e (Some v) p is is2 some = number_at e.0 v old all is
    from e None (Some v) is is2 some = number_at e.0 v new all2 is2
    from e None None is is2 some = absurd (none_some (sym (ap (λ o. change_of o (at nat_cmp e.0 new)) is ∙ ap (change_of None) is2) ∙ some))

pub listing-more : (old new : Entries RouteRec) (left rest : List (ℕ × ChangeView RouteRec)) (keys more : List RouteKey) (n : ℕ) (key : RouteKey) → IsListing old new left keys → IsFirstOf left rest n → key ≡ key_of_rib (rib_of n) → more ≡ insert route_cmp key keys → IsListing old new rest more
listing-more old new left rest keys more n key so_far step key_is is = rw is (record {
  ascend = ascends-insert route_cmp route_order.total key keys so_far.ascend;
  numbers = λ e has. so_far.numbers e (subst (λ (l : List (ℕ × ChangeView RouteRec)). Contains l e) (sym step.is) (contains_later (n, step.change) rest e has));
  same = λ m none absent. so_far.same m (ap (at nat_cmp m) step.is ∙ skipped m none absent) (λ has. absent (insert_contains route_cmp route_order key keys (key_of_rib (rib_of m)) (inr has)));
})
  where
    skipped : (m : ℕ) → at nat_cmp m rest ≡ None → (Contains (insert route_cmp key keys) (key_of_rib (rib_of m)) → ⊥) → at nat_cmp m ((n, step.change) ∷ rest) ≡ None
    skipped m none absent = by_order (nat_cmp m n)
        (λ h. rw h refl)
        (λ h. absurd (absent (insert_contains route_cmp route_order key keys (key_of_rib (rib_of m)) (inl (ap (λ (x : ℕ). key_of_rib (rib_of x)) (nat_order.exact m n h) ∙ sym key_is)))))
        (λ h. rw h none)

pub listing-number : (old new : Entries RouteRec) (left rest : List (ℕ × ChangeView RouteRec)) (keys : List RouteKey) (n : ℕ) → IsListing old new left keys → IsFirstOf left rest n → IsRibNumber n
listing-number old new left rest keys n so_far step = so_far.numbers (n, step.change) (subst (λ (l : List (ℕ × ChangeView RouteRec)). Contains l (n, step.change)) (sym step.is) (contains_first (n, step.change) rest))

pub listing-end : (old new : Entries RouteRec) (left : List (ℕ × ChangeView RouteRec)) (keys : List RouteKey) → IsListing old new left keys → left ≡ [] → HasChanged old new keys
listing-end old new left keys so_far none = record { ascend = so_far.ascend; same = λ n absent. so_far.same n (ap (at nat_cmp n) none) absent }

pub sorted-none : (keys : List RouteKey) → keys ≡ [] → IsStrictlySortedBy route_cmp keys
unfolding IsStrictlySortedBy
sorted-none keys none = rw none tt

pub step-fewer : (left rest : List (ℕ × ChangeView RouteRec)) (n : ℕ) → IsFirstOf left rest n → length rest < length left
step-fewer left rest n step = let more : length left ≡ length ((n, step.change) ∷ rest) = ap (λ (l : List (ℕ × ChangeView RouteRec)). length l) step.is in omega (arith, more)

-- the views of a state's maps
pub view-of : (s : StateView) (routes : MapView RouteRec) (intfs : MapView IntfRec) (v : Rib) → v ≡ rib_over intfs.entries routes.entries → routes ≡ s.routes → intfs ≡ s.intfs → v ≡ rib (plain s)
view-of s routes intfs v is is_routes is_intfs = is ∙ ap (λ (m : MapView RouteRec). rib_over intfs.entries m.entries) is_routes ∙ ap (λ (m : MapView IntfRec). rib_over m.entries s.routes.entries) is_intfs

pub by-both-of : (old new v w : Rib) (keys : List RouteKey) → v ≡ old → w ≡ new → HasKeysOf (best_keys v) (best_keys w) keys → AreCandidates old new keys
by-both-of old new v w keys is is2 both = subst (λ (o : Rib). AreCandidates o new keys) is (subst (λ (n : Rib). AreCandidates v n keys) is2 (by-both v w keys both))

pub by-routes-of : (o n : StateView) → IsState o → IsState n → (keys : List RouteKey) (i j : MapView IntfRec) (r q : MapView RouteRec) → i ≡ o.intfs → j ≡ n.intfs → r ≡ o.routes → q ≡ n.routes → ((key : ℕ) → at nat_cmp key i.entries ≡ at nat_cmp key j.entries) → HasChanged r.entries q.entries keys → AreCandidates (rib (plain o)) (rib (plain n)) keys
by-routes-of o n old_state new_state keys i j r q i_is j_is r_is q_is same changed = by-routes o n old_state new_state keys
    (λ key. sym (ap (λ (m : MapView IntfRec). at nat_cmp key m.entries) i_is) ∙ same key ∙ ap (λ (m : MapView IntfRec). at nat_cmp key m.entries) j_is)
    (subst (λ (m : MapView RouteRec). HasChanged m.entries n.routes.entries keys) r_is (subst (λ (m : MapView RouteRec). HasChanged r.entries m.entries keys) q_is changed))

pub moved-by : (old new v w : Rib) (keys listed moved : List RouteKey) → v ≡ old → w ≡ new → listed ≡ keys → AreCandidates old new keys → AreThoseMoved v w listed moved → AreMoved old new moved
moved-by old new v w keys listed moved is is2 same among those = moved-of old new keys moved among (subst (λ (l : List RouteKey). AreThoseMoved old new l moved) same (subst (λ (o : Rib). AreThoseMoved o new listed moved) is (subst (λ (n : Rib). AreThoseMoved v n listed moved) is2 those)))
