-- What the changes from one list of rows to another are.
use Rattle.std.proofs.Common.{◌≡◌, ◌≢◌, ◌≤◌, ◌+◌, ◌*◌, true, false, Option, None, Some, List, [], ◌∷◌, length, map, refl, sym, ap, subst, ◌∙◌, inl, inr, arith}
use Rattle.std.proofs.lemmas.List.{length-map}
use Rattle.std.specs.List.{Contains}
use Rattle.std.specs.List.Sorted.{IsStrictlySortedBy}
use Rattle.std.specs.Ordering.{is_eq}
use Rattle.std.specs.declared.cmp.Ordering.{Ordering}
use Rattle.keyed.specs.Differing.{AreDifferingKeys}
use Rattle.keyed.specs.EntryLaws.{sorted_keys}
use Rattle.keyed.specs.Keyed.{IsKeyOrder, at, Ascends}
use Rattle.keyed.specs.KeyedLaws.{by_order, decide, same, same_at}
use Rattle.keyed.specs.Members.{contains_first, contains_later, contains_cases, contains_none, contains_map}
use Rattle.keyed.specs.SetLaws.{same_members}
use Rattle.net_types.specs.Differ.{AscendRows, differ}
use Rattle.net_types.specs.KeyOrder.{l2_cmp, l2_order, host_cmp, host_order, group_cmp, group_order, route_cmp, route_order}
use Rattle.net_types.specs.Rows.{Rows}
use Rattle.chip_core.specs.ChangeLists.{Change, IsAscending, by_key}
use Rattle.chip_core.specs.Changes.{AreOld, AreOldRows, changed, changed_rows, removes, writes_of}
use Rattle.chip_core.specs.declared.changes.RowChanges.{RowChanges}
use Rattle.hw_undo.specs.Phases.{AreAscending}
use Rattle.hw_undo.proofs.ChangeLaws.{ascends-adds, ascends-removes}
use Rattle.hw_undo.proofs.PhaseLaws.{added, at-adds, at-removes, looked, removed}
use Rattle.row_laws.proofs.Tests.{find_key}
use Rattle.switch_laws.proofs.DifferLaws.{differ_counts}
use Rattle.row_change_laws.specs.Between.{AreChangesBetween, AreReal, AreRealChanges, AreRowChangesBetween}
use Rattle.row_change_laws.specs.Made.{change_at}

pub keys_by : {K V : Type 0} (cs : List (Change K V)) → map (λ e. e.0) (by_key cs) ≡ map (λ (c : Change K V). c.0) cs
keys_by [] = refl
keys_by {K = K} (c ∷ cs) = ap (λ (l : List K). c.0 ∷ l) (keys_by cs)

abbrev change_of : {K V : Type 0} → K → Option V → Option V → Change K V
change_of k o n = (k, o, n)

module _ {K : Type 0} (cmp : K → K → Ordering) (order : IsKeyOrder cmp) where
  is_same : (q k : K) → q ≡ k → is_eq (cmp q k) ≡ true
  is_same q k e = ap (λ (x : K). is_eq (cmp q x)) (sym e) ∙ ap is_eq (same cmp order q)

  is_other : (q k : K) → q ≢ k → is_eq (cmp q k) ≡ false
  is_other q k other = by_order (cmp q k) (λ h. rw h refl) (λ h. absurd (other (order.exact q k h))) (λ h. rw h refl)

module _ {K : Type 0} (cmp : K → K → Ordering) (order : IsKeyOrder cmp) {V : Type 0} where
  put_in : (new row : Option V) → added cmp order new (removed cmp order new row) ≡ new
  put_in None None = refl
  put_in None (Some x) = refl
  put_in (Some v) row = refl

  -- what becomes of the row of a listed key, and of another
  listed : (q : K) (cs : List (Change K V)) (row : Option V) → Contains (map (λ (c : Change K V). c.0) cs) q → (c : Change K V) × Contains cs c × (c.0 ≡ q) × (looked cmp order (added cmp order) q cs (looked cmp order (removed cmp order) q cs row) ≡ c.2)
  listed q [] row has = absurd (contains_none q has)
  listed q (c ∷ cs) row has = elim (decide cmp order q c.0) [
    | inl e ↦ (c, contains_first c cs, sym e, rw (is_same cmp order q c.0 e) (put_in c.2 row))
    | inr other ↦ elim (contains_cases c.0 (map (λ (x : Change K V). x.0) cs) q has) [
      | inl e ↦ absurd (other e)
      | inr rest ↦
          let found = listed q cs row rest in
          (found.0, contains_later c cs found.0 found.1, found.2, rw (is_other cmp order q c.0 other) found.3)
    ]
  ]

  unlisted : (q : K) (cs : List (Change K V)) (row : Option V) → (Contains (map (λ (c : Change K V). c.0) cs) q → ⊥) → looked cmp order (added cmp order) q cs (looked cmp order (removed cmp order) q cs row) ≡ row
  unlisted q [] row absent = refl
  unlisted q (c ∷ cs) row absent =
      let keys : List K = map (λ (x : Change K V). x.0) cs in
      let other : q ≢ c.0 = λ e. absent (subst (λ (x : K). Contains (c.0 ∷ keys) x) (sym e) (contains_first c.0 keys)) in
      rw (is_other cmp order q c.0 other) (unlisted q cs row (λ has. absent (contains_later c.0 keys q has)))

  at-changed : (q : K) (cs : List (Change K V)) (rows : List (K × V)) → IsAscending cmp cs → Ascends cmp rows → at cmp q (changed cmp cs rows) ≡ looked cmp order (added cmp order) q cs (looked cmp order (removed cmp order) q cs (at cmp q rows))
  at-changed q cs rows ascending asc = at-adds cmp order q cs (removes cmp cs rows) ascending ∙ ap (looked cmp order (added cmp order) q cs) (at-removes cmp order q cs rows ascending asc)

  -- the changes make the new rows of the old ones
  pub makes : (cs : List (Change K V)) (xs ys : List (K × V)) → Ascends cmp xs → Ascends cmp ys → AreChangesBetween cmp cs xs ys → changed cmp cs xs ≡ ys
  makes cs xs ys a b between = same_at cmp order (changed cmp cs xs) ys (ascends-adds cmp order cs (removes cmp cs xs) (ascends-removes cmp order cs xs a)) b (λ q. elim (find_key cmp order q (map (λ (c : Change K V). c.0) cs)) [
    | inl has ↦
        let found = listed q cs (at cmp q xs) has in
        at-changed q cs xs between.ascending a ∙ found.3 ∙ sym (subst (λ (x : K). at cmp x ys ≡ found.0.2) found.2 (between.each found.0 found.1).1)
    | inr absent ↦ at-changed q cs xs between.ascending a ∙ unlisted q cs (at cmp q xs) absent ∙ between.rest.same q absent
  ])

  old_of : (cs : List (Change K V)) (xs : List (K × V)) → ((c : Change K V) → Contains cs c → at cmp c.0 xs ≡ c.1) → AreOld cmp cs xs
  old_of [] xs each = tt
  old_of (c ∷ cs) xs each = (each c (contains_first c cs), old_of cs xs (λ x has. each x (contains_later c cs x has)))

  pub are_old : (cs : List (Change K V)) (xs ys : List (K × V)) → AreChangesBetween cmp cs xs ys → AreOld cmp cs xs
  are_old cs xs ys between = old_of cs xs (λ c has. (between.each c has).0)

  real_of : (cs : List (Change K V)) → ((c : Change K V) → Contains cs c → c.1 ≢ c.2) → AreReal cs
  real_of [] each = tt
  real_of (c ∷ cs) each = (each c (contains_first c cs), real_of cs (λ x has. each x (contains_later c cs x has)))

  pub are_real : (cs : List (Change K V)) (xs ys : List (K × V)) → AreChangesBetween cmp cs xs ys → AreReal cs
  are_real cs xs ys between = real_of cs (λ c has. (between.each c has).2)

  -- a change is known by its key
  known : (xs ys : List (K × V)) (cs : List (Change K V)) → ((c : Change K V) → Contains cs c → (at cmp c.0 xs ≡ c.1) × (at cmp c.0 ys ≡ c.2) × (c.1 ≢ c.2)) → cs ≡ map (change_at (λ k. at cmp k xs) (λ k. at cmp k ys)) (map (λ (c : Change K V). c.0) cs)
  known xs ys [] each = refl
  known xs ys (c ∷ cs) each =
      let here = each c (contains_first c cs) in
      let entry : c ≡ change_of c.0 (at cmp c.0 xs) (at cmp c.0 ys) = ap (λ (o : Option V). change_of c.0 o c.2) (sym here.0) ∙ ap (change_of c.0 (at cmp c.0 xs)) (sym here.1) in
      ap (λ (x : Change K V). x ∷ cs) entry ∙ ap (λ (l : List (Change K V)). change_of c.0 (at cmp c.0 xs) (at cmp c.0 ys) ∷ l) (known xs ys cs (λ x has. each x (contains_later c cs x has)))

  within : (cs ds : List (Change K V)) (xs ys : List (K × V)) → AreChangesBetween cmp cs xs ys → AreChangesBetween cmp ds xs ys → (k : K) → Contains (map (λ (c : Change K V). c.0) cs) k → Contains (map (λ (c : Change K V). c.0) ds) k
  within cs ds xs ys c d k has = elim (find_key cmp order k (map (λ (x : Change K V). x.0) ds)) [
    | inl there ↦ there
    | inr absent ↦
        let found = contains_map (λ (x : Change K V). x.0) cs k has in
        let facts = c.each found.0 found.1 in
        absurd (facts.2 (sym facts.0 ∙ ap (λ (x : K). at cmp x xs) found.2 ∙ d.rest.same k absent ∙ ap (λ (x : K). at cmp x ys) (sym found.2) ∙ facts.1))
  ]

  ascend_keys : (cs : List (Change K V)) → IsAscending cmp cs → IsStrictlySortedBy cmp (map (λ (c : Change K V). c.0) cs)
  ascend_keys cs ascending = subst (λ (l : List K). IsStrictlySortedBy cmp l) (keys_by cs) (sorted_keys cmp order (by_key cs) ascending)

  pub one_list : (cs ds : List (Change K V)) (xs ys : List (K × V)) → AreChangesBetween cmp cs xs ys → AreChangesBetween cmp ds xs ys → cs ≡ ds
  one_list cs ds xs ys c d =
      known xs ys cs c.each
      ∙ ap (map (change_at (λ k. at cmp k xs) (λ k. at cmp k ys))) (same_members cmp order (map (λ (x : Change K V). x.0) cs) (map (λ (x : Change K V). x.0) ds) (ascend_keys cs c.ascending) (ascend_keys ds d.ascending) (λ k. (within cs ds xs ys c d k, within ds cs xs ys d c k)))
      ∙ sym (known xs ys ds d.each)

  -- the listed keys are those that differ
  listed_differ : (xs ys : List (K × V)) (cs : List (Change K V)) (k : K) → AreChangesBetween cmp cs xs ys → Contains (map (λ (c : Change K V). c.0) cs) k → at cmp k xs ≢ at cmp k ys
  listed_differ xs ys cs k between has same_row =
      let found = contains_map (λ (c : Change K V). c.0) cs k has in
      let facts = between.each found.0 found.1 in
      facts.2 (sym facts.0 ∙ ap (λ (x : K). at cmp x xs) found.2 ∙ same_row ∙ ap (λ (x : K). at cmp x ys) (sym found.2) ∙ facts.1)

  differ_listed : (xs ys : List (K × V)) (cs : List (Change K V)) (k : K) → AreChangesBetween cmp cs xs ys → at cmp k xs ≢ at cmp k ys → Contains (map (λ (c : Change K V). c.0) cs) k
  differ_listed xs ys cs k between differs = elim (find_key cmp order k (map (λ (c : Change K V). c.0) cs)) [
    | inl has ↦ has
    | inr absent ↦ absurd (differs (between.rest.same k absent))
  ]

  pub keys_differ : (xs ys : List (K × V)) (cs : List (Change K V)) → AreChangesBetween cmp cs xs ys → AreDifferingKeys cmp (map (λ (c : Change K V). c.0) cs) xs ys
  keys_differ xs ys cs between = record { ascend = ascend_keys cs between.ascending; each = λ k. (listed_differ xs ys cs k between, differ_listed xs ys cs k between) }

-- of all four tables
pub rows_ascend : (changes : RowChanges) (a b : Rows) → AreRowChangesBetween changes a b → AreAscending changes
rows_ascend changes a b between = record { l2 = between.l2.ascending; host = between.host.ascending; group = between.group.ascending; route = between.route.ascending }

pub rows_old : (changes : RowChanges) (a b : Rows) → AreRowChangesBetween changes a b → AreOldRows changes a
rows_old changes a b between = record {
  l2 = are_old l2_cmp l2_order changes.l2 a.l2 b.l2 between.l2;
  host = are_old host_cmp host_order changes.host a.host b.host between.host;
  group = are_old group_cmp group_order changes.group a.group b.group between.group;
  route = are_old route_cmp route_order changes.route a.route b.route between.route;
}

pub rows_real : (changes : RowChanges) (a b : Rows) → AreRowChangesBetween changes a b → AreRealChanges changes
rows_real changes a b between = record {
  l2 = are_real l2_cmp l2_order changes.l2 a.l2 b.l2 between.l2;
  host = are_real host_cmp host_order changes.host a.host b.host between.host;
  group = are_real group_cmp group_order changes.group a.group b.group between.group;
  route = are_real route_cmp route_order changes.route a.route b.route between.route;
}

pub rows_make : (changes : RowChanges) (a b : Rows) → AscendRows a → AscendRows b → AreRowChangesBetween changes a b → changed_rows changes a ≡ b
rows_make changes a b asc bsc between =
    let made : Rows = changed_rows changes a in
    ap (λ l. record made { l2 = l }) (makes l2_cmp l2_order changes.l2 a.l2 b.l2 asc.l2 bsc.l2 between.l2)
    ∙ ap (λ l. record made { l2 = b.l2; host = l }) (makes host_cmp host_order changes.host a.host b.host asc.host bsc.host between.host)
    ∙ ap (λ l. record made { l2 = b.l2; host = b.host; group = l }) (makes group_cmp group_order changes.group a.group b.group asc.group bsc.group between.group)
    ∙ ap (λ l. record b { route = l }) (makes route_cmp route_order changes.route a.route b.route asc.route bsc.route between.route)

pub one_changes : (c d : RowChanges) (a b : Rows) → AreRowChangesBetween c a b → AreRowChangesBetween d a b → c ≡ d
one_changes c d a b x y =
    ap (λ l. record c { l2 = l }) (one_list l2_cmp l2_order c.l2 d.l2 a.l2 b.l2 x.l2 y.l2)
    ∙ ap (λ l. record c { l2 = d.l2; host = l }) (one_list host_cmp host_order c.host d.host a.host b.host x.host y.host)
    ∙ ap (λ l. record c { l2 = d.l2; host = d.host; group = l }) (one_list group_cmp group_order c.group d.group a.group b.group x.group y.group)
    ∙ ap (λ l. record d { route = l }) (one_list route_cmp route_order c.route d.route a.route b.route x.route y.route)

pub rows_counted : (changes : RowChanges) (a b : Rows) → AreRowChangesBetween changes a b → length changes.l2 + length changes.host + length changes.group + length changes.route ≡ differ a b
rows_counted changes a b between =
    let count = differ_counts a b (map (λ c. c.0) changes.l2) (map (λ c. c.0) changes.host) (map (λ c. c.0) changes.group) (map (λ c. c.0) changes.route)
    (keys_differ l2_cmp l2_order a.l2 b.l2 changes.l2 between.l2) (keys_differ host_cmp host_order a.host b.host changes.host between.host)
    (keys_differ group_cmp group_order a.group b.group changes.group between.group) (keys_differ route_cmp route_order a.route b.route changes.route between.route) in
    omega (arith, count, length-map changes.l2 (λ c. c.0), length-map changes.host (λ c. c.0), length-map changes.group (λ c. c.0), length-map changes.route (λ c. c.0))

pub rows_written : (changes : RowChanges) (a b : Rows) → AreRowChangesBetween changes a b → writes_of changes ≤ 2 * differ a b
rows_written changes a b between = omega (arith, rows_counted changes a b between)
