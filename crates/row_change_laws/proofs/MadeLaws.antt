-- Changes that are made of keys.
use Rattle.std.proofs.Common.{◌≡◌, ◌≢◌, Bool, true, not, Option, None, Some, List, [], ◌∷◌, ◌++◌, filter, map, refl, sym, ap, subst, ◌∙◌, inl, inr}
use Rattle.std.proofs.lemmas.Bool.{cases_Bool, false≢true, not-true}
use Rattle.std.proofs.lemmas.List.Elements.{Contains-append_left, Contains-append_right}
use Rattle.std.specs.Bool.{beq, Decides}
use Rattle.std.specs.Cmp.Lexicographic.{pointwise}
use Rattle.std.specs.List.{AllByRecursion, Contains}
use Rattle.std.specs.List.Sorted.{IsStrictlySortedBy}
use Rattle.std.specs.Option.{option_eq}
use Rattle.std.specs.declared.cmp.Ordering.{Ordering}
use Rattle.std.specs.declared.cmp.Ordering.TheVariants.{Less}
use Rattle.keyed.specs.Cases.{none_some}
use Rattle.keyed.specs.EntryLaws.{contains_at, key_there}
use Rattle.keyed.specs.Keyed.{IsKeyOrder, at, Ascends, IsBelow}
use Rattle.keyed.specs.ListLaws.{sorted_filter}
use Rattle.keyed.specs.Members.{map_contains, contains_map, contains_filter, filter_contains}
use Rattle.keyed.specs.SetLaws.{ascends-set_of, set_of_contains}
use Rattle.keyed.specs.Sets.{set_of}
use Rattle.net_types.specs.Differ.{AscendRows, same_host, same_l2, same_target}
use Rattle.net_types.specs.KeyOrder.{l2_cmp, l2_order, host_cmp, host_order, group_cmp, group_order, route_cmp, route_order}
use Rattle.net_types.specs.Rows.{Rows}
use Rattle.chip_core.specs.ChangeLists.{Change, IsAscending, by_key}
use Rattle.row_laws.specs.RowAt.{l2_row_at, host_row_at, group_row_at, route_row_at}
use Rattle.row_laws.specs.Touching.{AreDifferences, DifferOnlyAt, Differences, l2_touched, host_touched, group_touched, route_touched}
use Rattle.row_laws.proofs.AtLaws.{l2-at, host-at, group-at, route-at}
use Rattle.row_laws.proofs.Tests.{find_key}
use Rattle.row_laws.proofs.TouchLaws.{l2_only, host_only, group_only, route_only}
use Rattle.switch_laws.proofs.DifferLaws.{host_decides, l2_decides, marks_decide, target_decides}
use Rattle.switch_model.specs.PlainState.{PlainState}
use Rattle.switch_model.specs.Rows.{rows}
use Rattle.switch_model.specs.StateKeys.{neighbor_cmp}
use Rattle.row_change_laws.specs.Between.{AreChangesBetween, AreRowChangesBetween, no_rows}
use Rattle.row_change_laws.specs.Made.{added_row, added_rows, change_at, changes_at, plain_changes, plain_row_changes, touched_row_changes}
use Rattle.row_change_laws.proofs.BetweenLaws.{one_changes}

-- what a test of rows tells of rows that may be missing
row_exact : {V : Type 0} (same : V → V → Bool) → ((x y : V) → Decides (same x y) (x ≡ y)) → (o p : Option V) → option_eq same o p ≡ true → o ≡ p
row_exact same tells None None e = refl
row_exact same tells None (Some y) e = absurd (false≢true e)
row_exact same tells (Some x) None e = absurd (false≢true e)
row_exact same tells (Some x) (Some y) e = ap Some ((tells x y).0 e)

row_holds : {V : Type 0} (same : V → V → Bool) → ((x y : V) → Decides (same x y) (x ≡ y)) → (o : Option V) → option_eq same o o ≡ true
row_holds same tells None = refl
row_holds same tells (Some x) = (tells x x).1 refl

test_apart : {V : Type 0} (same : V → V → Bool) → ((x y : V) → Decides (same x y) (x ≡ y)) → (o p : Option V) → not (option_eq same o p) ≡ true → o ≢ p
test_apart {V} same tells o p e is =
    let holds : option_eq same o p ≡ true = subst (λ (x : Option V). option_eq same o x ≡ true) is (row_holds same tells o) in
    false≢true (sym (not-true (option_eq same o p) e) ∙ holds)

module _ {K : Type 0} (cmp : K → K → Ordering) {V : Type 0} (f g : K → Option V) where
  below_first : (k : K) (ks : List K) → AllByRecursion (λ y. cmp k y ≡ Less) ks → IsBelow cmp k (by_key (map (change_at f g) ks))
  below_first k [] all = tt
  below_first k (x ∷ xs) all = all.0

  sorted_changes : (ks : List K) → IsStrictlySortedBy cmp ks → IsAscending cmp (map (change_at f g) ks)
  unfolding IsStrictlySortedBy
  sorted_changes [] asc = tt
  sorted_changes (k ∷ ks) asc = (below_first k ks asc.0, sorted_changes ks asc.1)

at_absent_by : {K V : Type 0} (cmp : K → K → Ordering) → IsKeyOrder cmp → (k : K) (l : List (K × V)) (o : Option V) → at cmp k l ≡ o → (Contains (map (λ e. e.0) l) k → ⊥) → o ≡ None
at_absent_by cmp order k l None is absent = refl
at_absent_by cmp order k l (Some v) is absent = absurd (absent (key_there cmp order k v l is))

keys_added : {K V : Type 0} (es : List (K × V)) → map (λ (c : Change K V). c.0) (map added_row es) ≡ map (λ e. e.0) es
keys_added [] = refl
keys_added {K = K} (e ∷ es) = ap (λ (l : List K). e.0 ∷ l) (keys_added es)

module _ {K : Type 0} (cmp : K → K → Ordering) (order : IsKeyOrder cmp) {V : Type 0} where
  pub at_absent : (k : K) (l : List (K × V)) → (Contains (map (λ e. e.0) l) k → ⊥) → at cmp k l ≡ None
  at_absent k l absent = at_absent_by cmp order k l (at cmp k l) refl absent

  -- made of keys among which is each that differs
  pub made : (same : V → V → Bool) → ((x y : V) → Decides (same x y) (x ≡ y)) → (f g : K → Option V) (xs ys : List (K × V)) (keys : List K) → ((k : K) → at cmp k xs ≡ f k) → ((k : K) → at cmp k ys ≡ g k) → DifferOnlyAt keys (λ k. at cmp k xs) (λ k. at cmp k ys) → AreChangesBetween cmp (changes_at cmp same f g keys) xs ys
  made same tells f g xs ys keys is_f is_g only =
      let p : K → Bool = λ k. not (option_eq same (f k) (g k)) in
      let kept : List K = filter p (set_of cmp keys) in
      record {
        ascending = sorted_changes cmp f g kept (sorted_filter cmp p (set_of cmp keys) (ascends-set_of cmp order.total keys));
        each = λ c has.
            let found = contains_map (change_at f g) kept c has in
            let differs : f found.0 ≢ g found.0 = test_apart same tells (f found.0) (g found.0) (contains_filter p (set_of cmp keys) found.0 found.1).1 in
            let P : Change K V → Type 0 = λ x. (at cmp x.0 xs ≡ x.1) × (at cmp x.0 ys ≡ x.2) × (x.1 ≢ x.2) in
            subst P found.2 (is_f found.0, is_g found.0, differs);
        rest = record {
          same = λ k absent. elim (cases_Bool (option_eq same (f k) (g k))) [
            | inl e ↦ is_f k ∙ row_exact same tells (f k) (g k) e ∙ sym (is_g k)
            | inr e ↦ elim (find_key cmp order k keys) [
              | inl has ↦ absurd (absent (map_contains (λ (c : Change K V). c.0) (map (change_at f g) kept) (change_at f g k) (map_contains (change_at f g) kept k (filter_contains p (set_of cmp keys) k (set_of_contains cmp order keys k has) (ap not e)))))
              | inr beside ↦ only.same k beside
            ]
          ];
        };
      }

  -- made of all keys
  all_keys : (xs ys : List (K × V)) → DifferOnlyAt (map (λ e. e.0) xs ++ map (λ e. e.0) ys) (λ k. at cmp k xs) (λ k. at cmp k ys)
  all_keys xs ys =
      let left : List K = map (λ (e : K × V). e.0) xs in
      let right : List K = map (λ (e : K × V). e.0) ys in
      record { same = λ k absent. at_absent k xs (λ has. absent (Contains-append_left left right k has)) ∙ sym (at_absent k ys (λ has. absent (Contains-append_right left right k has))) }

  pub plain_made : (same : V → V → Bool) → ((x y : V) → Decides (same x y) (x ≡ y)) → (xs ys : List (K × V)) → AreChangesBetween cmp (plain_changes cmp same xs ys) xs ys
  plain_made same tells xs ys = made same tells (λ k. at cmp k xs) (λ k. at cmp k ys) xs ys (map (λ e. e.0) xs ++ map (λ e. e.0) ys) (λ k. refl) (λ k. refl) (all_keys xs ys)

  -- each row added
  below_added : (k : K) (es : List (K × V)) → IsBelow cmp k es → IsBelow cmp k (by_key (map added_row es))
  below_added k [] below = tt
  below_added k (e ∷ es) below = below

  ascending_added : (es : List (K × V)) → Ascends cmp es → IsAscending cmp (map added_row es)
  ascending_added [] asc = tt
  ascending_added (e ∷ es) asc = (below_added e.0 es asc.0, ascending_added es asc.1)

  pub added_made : (es : List (K × V)) → Ascends cmp es → AreChangesBetween cmp (map added_row es) [] es
  added_made es asc =
      record {
        ascending = ascending_added es asc;
        each = λ c has.
            let found = contains_map added_row es c has in
            let P : Change K V → Type 0 = λ x. (at cmp x.0 [] ≡ x.1) × (at cmp x.0 es ≡ x.2) × (x.1 ≢ x.2) in
            let none : None ≢ Some found.0.1 = λ e. none_some e in
            subst P found.2 (refl, contains_at cmp order found.0 es asc found.1, none);
        rest = record { same = λ k absent. sym (at_absent k es (λ has. absent (subst (λ (l : List K). Contains l k) (sym (keys_added es)) has))) };
      }

pub touched_made : (d : Differences) (m n : PlainState) → Ascends neighbor_cmp m.neighbors → Ascends neighbor_cmp n.neighbors → AreDifferences d m n → AreRowChangesBetween (touched_row_changes m n d) (rows m) (rows n)
touched_made d m n asc bsc diff = record {
  l2 = made l2_cmp l2_order same_l2 l2_decides (l2_row_at m) (l2_row_at n) (rows m).l2 (rows n).l2 (l2_touched n d) (l2-at m) (l2-at n) (l2_only d m n diff);
  host = made host_cmp host_order same_host host_decides (host_row_at m) (host_row_at n) (rows m).host (rows n).host (host_touched m n d) (λ k. host-at m k asc) (λ k. host-at n k bsc) (host_only d m n diff asc bsc);
  group = made group_cmp group_order (pointwise beq) marks_decide (group_row_at m) (group_row_at n) (rows m).group (rows n).group (group_touched m n d) (group-at m) (group-at n) (group_only d m n diff);
  route = made route_cmp route_order same_target target_decides (route_row_at m) (route_row_at n) (rows m).route (rows n).route (route_touched d) (route-at m) (route-at n) (route_only d m n diff);
}

pub plain_rows_made : (a b : Rows) → AreRowChangesBetween (plain_row_changes a b) a b
plain_rows_made a b = record {
  l2 = plain_made l2_cmp l2_order same_l2 l2_decides a.l2 b.l2;
  host = plain_made host_cmp host_order same_host host_decides a.host b.host;
  group = plain_made group_cmp group_order (pointwise beq) marks_decide a.group b.group;
  route = plain_made route_cmp route_order same_target target_decides a.route b.route;
}

pub touched_plain : (d : Differences) (m n : PlainState) → Ascends neighbor_cmp m.neighbors → Ascends neighbor_cmp n.neighbors → AreDifferences d m n → touched_row_changes m n d ≡ plain_row_changes (rows m) (rows n)
touched_plain d m n asc bsc diff = one_changes (touched_row_changes m n d) (plain_row_changes (rows m) (rows n)) (rows m) (rows n) (touched_made d m n asc bsc diff) (plain_rows_made (rows m) (rows n))

pub rows_added : (a : Rows) → AscendRows a → AreRowChangesBetween (added_rows a) no_rows a
rows_added a asc = record {
  l2 = added_made l2_cmp l2_order a.l2 asc.l2;
  host = added_made host_cmp host_order a.host asc.host;
  group = added_made group_cmp group_order a.group asc.group;
  route = added_made route_cmp route_order a.route asc.route;
}
