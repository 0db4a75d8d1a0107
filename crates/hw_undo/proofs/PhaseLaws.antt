-- What the phases of a commit make of a chip's rows, table by table.
use Rattle.std.proofs.Common.{◌≡◌, ◌≢◌, ◌≤◌, ◌+◌, ◌*◌, Bool, true, false, List, [], ◌∷◌, Option, None, Some, IsSome, length, if◌then◌else◌, refl, sym, ap, ◌∙◌, subst, arith, inl, inr}
use Rattle.std.specs.Ordering.{is_eq}
use Rattle.std.specs.declared.cmp.Ordering.{Ordering}
use Rattle.keyed.specs.Keyed.{IsKeyOrder, at, without, Ascends}
use Rattle.keyed.specs.KeyedLaws.{by_order, decide, same, same_at, at-put, at-without, at-without_other, ascends-without}
use Rattle.keyed.specs.EachLaws.{there-put}
use Rattle.chip_core.specs.ChangeLists.{Change, IsAscending}
use Rattle.chip_core.specs.Changes.{AreOld, add_one, adds, changed, remove_one, removes}
use Rattle.hw_undo.specs.Counts.{new_rows_in, old_rows_in, removals_in, rows_in, sum_over}
use Rattle.hw_undo.specs.Phases.{AreGone, AreReady, cuts, old_if}
use Rattle.hw_undo.proofs.ChangeLaws.{IsApart, apart, ascends-adds, ascends-cuts, ascends-remove, ascends-removes, at-add_other, at-remove_other, at-remove_same, gone-add, old-remove}
use Rattle.chip_core.specs.ListLaws.{none-some}

is_same : {K : Type 0} (cmp : K → K → Ordering) → IsKeyOrder cmp → (q k : K) → q ≡ k → is_eq (cmp q k) ≡ true
is_same {K} cmp order q k e = ap (λ (x : K). is_eq (cmp q x)) (sym e) ∙ ap is_eq (same cmp order q)

is_other : {K : Type 0} (cmp : K → K → Ordering) → IsKeyOrder cmp → (q k : K) → q ≢ k → is_eq (cmp q k) ≡ false
is_other cmp order q k other = by_order (cmp q k) (λ h. rw h refl) (λ h. absurd (other (order.exact q k h))) (λ h. rw h refl)

module _ {K : Type 0} (cmp : K → K → Ordering) (order : IsKeyOrder cmp) {V : Type 0} where
  -- what becomes of a key's row: f of its change where it is listed, else nothing
  abbrev pub looked : (Option V → Option V → Option V) → K → List (Change K V) → Option V → Option V
  looked f q [] row = row
  looked f q (c ∷ cs) row = if is_eq (cmp q c.0) then f c.2 row else looked f q cs row

  looked-same : (f : Option V → Option V → Option V) (q : K) (c : Change K V) (cs : List (Change K V)) (row : Option V) → q ≡ c.0 → looked f q (c ∷ cs) row ≡ f c.2 row
  looked-same f q c cs row e = rw (is_same cmp order q c.0 e) refl

  looked-other : (f : Option V → Option V → Option V) (q : K) (c : Change K V) (cs : List (Change K V)) (row : Option V) → q ≢ c.0 → looked f q (c ∷ cs) row ≡ looked f q cs row
  looked-other f q c cs row other = rw (is_other cmp order q c.0 other) refl

  looked-apart : (f : Option V → Option V → Option V) (q : K) (cs : List (Change K V)) (row : Option V) → IsApart q cs → looked f q cs row ≡ row
  looked-apart f q [] row other = refl
  looked-apart f q (c ∷ cs) row other = looked-other f q c cs row (λ e. other.0 (sym e)) ∙ looked-apart f q cs row other.1

  -- the row after removals, after cuts and after additions
  abbrev pub removed : Option V → Option V → Option V
  removed new row = old_if row new

  abbrev pub cut : Option V → Option V → Option V
  cut new row = None

  abbrev pub added : Option V → Option V → Option V
  added None row = row
  added (Some v) row = Some v

  at-add_same : (k : K) (new : Option V) (l : List (K × V)) → at cmp k (add_one cmp k new l) ≡ added new (at cmp k l)
  at-add_same k None l = refl
  at-add_same k (Some v) l = at-put cmp order k v l

  at-removes_apart : (q : K) (cs : List (Change K V)) (l : List (K × V)) → Ascends cmp l → IsApart q cs → at cmp q (removes cmp cs l) ≡ at cmp q l
  at-removes_apart q [] l asc other = refl
  at-removes_apart q (c ∷ cs) l asc other = at-removes_apart q cs (remove_one cmp c.0 c.2 l) (ascends-remove cmp order c.0 c.2 l asc) other.1 ∙ at-remove_other cmp order q c.0 c.2 l asc (λ e. other.0 (sym e))

  at-cuts_apart : (q : K) (cs : List (Change K V)) (l : List (K × V)) → Ascends cmp l → IsApart q cs → at cmp q (cuts cmp cs l) ≡ at cmp q l
  at-cuts_apart q [] l asc other = refl
  at-cuts_apart q (c ∷ cs) l asc other = at-cuts_apart q cs (without cmp c.0 l) (ascends-without cmp order c.0 l asc) other.1 ∙ at-without_other cmp order q c.0 l asc (λ e. other.0 (sym e))

  at-adds_apart : (q : K) (cs : List (Change K V)) (l : List (K × V)) → IsApart q cs → at cmp q (adds cmp cs l) ≡ at cmp q l
  at-adds_apart q [] l other = refl
  at-adds_apart q (c ∷ cs) l other = at-adds_apart q cs (add_one cmp c.0 c.2 l) other.1 ∙ at-add_other cmp order q c.0 c.2 l (λ e. other.0 (sym e))

  pub at-removes : (q : K) (cs : List (Change K V)) (l : List (K × V)) → IsAscending cmp cs → Ascends cmp l → at cmp q (removes cmp cs l) ≡ looked removed q cs (at cmp q l)
  at-removes q [] l ascending asc = refl
  at-removes q (c ∷ cs) l ascending asc =
      let left = remove_one cmp c.0 c.2 l in
      let sorted = ascends-remove cmp order c.0 c.2 l asc in
      elim (decide cmp order q c.0) [
        | inl e ↦
            ap (λ (x : K). at cmp x (removes cmp cs left)) e ∙ at-removes_apart c.0 cs left sorted (apart cmp order c cs ascending) ∙ at-remove_same cmp order c.0 (at cmp c.0 l) c.2 l asc refl
            ∙ ap (λ (x : K). removed c.2 (at cmp x l)) (sym e) ∙ sym (looked-same removed q c cs (at cmp q l) e)
        | inr other ↦ at-removes q cs left ascending.1 sorted ∙ ap (looked removed q cs) (at-remove_other cmp order q c.0 c.2 l asc other) ∙ sym (looked-other removed q c cs (at cmp q l) other)
      ]

  pub at-cuts : (q : K) (cs : List (Change K V)) (l : List (K × V)) → IsAscending cmp cs → Ascends cmp l → at cmp q (cuts cmp cs l) ≡ looked cut q cs (at cmp q l)
  at-cuts q [] l ascending asc = refl
  at-cuts q (c ∷ cs) l ascending asc =
      let left = without cmp c.0 l in
      let sorted = ascends-without cmp order c.0 l asc in
      elim (decide cmp order q c.0) [
        | inl e ↦
            ap (λ (x : K). at cmp x (cuts cmp cs left)) e ∙ at-cuts_apart c.0 cs left sorted (apart cmp order c cs ascending) ∙ at-without cmp order c.0 l asc
            ∙ sym (looked-same cut q c cs (at cmp q l) e)
        | inr other ↦ at-cuts q cs left ascending.1 sorted ∙ ap (looked cut q cs) (at-without_other cmp order q c.0 l asc other) ∙ sym (looked-other cut q c cs (at cmp q l) other)
      ]

  pub at-adds : (q : K) (cs : List (Change K V)) (l : List (K × V)) → IsAscending cmp cs → at cmp q (adds cmp cs l) ≡ looked added q cs (at cmp q l)
  at-adds q [] l ascending = refl
  at-adds q (c ∷ cs) l ascending =
      let more = add_one cmp c.0 c.2 l in
      elim (decide cmp order q c.0) [
        | inl e ↦
            ap (λ (x : K). at cmp x (adds cmp cs more)) e ∙ at-adds_apart c.0 cs more (apart cmp order c cs ascending) ∙ at-add_same c.0 c.2 l
            ∙ ap (λ (x : K). added c.2 (at cmp x l)) (sym e) ∙ sym (looked-same added q c cs (at cmp q l) e)
        | inr other ↦ at-adds q cs more ascending.1 ∙ ap (looked added q cs) (at-add_other cmp order q c.0 c.2 l other) ∙ sym (looked-other added q c cs (at cmp q l) other)
      ]

  -- new rows come to the same after cuts as after removals
  added_after : (new row : Option V) → added new (cut new row) ≡ added new (removed new row)
  added_after None row = refl
  added_after (Some v) row = refl

  looked_after : (q : K) (cs : List (Change K V)) (row : Option V) → looked added q cs (looked cut q cs row) ≡ looked added q cs (looked removed q cs row)
  looked_after q [] row = refl
  looked_after q (c ∷ cs) row = split (is_eq (cmp q c.0)) (looked_after q cs row)
    where
      split : (b : Bool) → looked added q cs (looked cut q cs row) ≡ looked added q cs (looked removed q cs row) → (if b then added c.2 (if b then cut c.2 row else looked cut q cs row) else looked added q cs (if b then cut c.2 row else looked cut q cs row)) ≡ (if b then added c.2 (if b then removed c.2 row else looked removed q cs row) else looked added q cs (if b then removed c.2 row else looked removed q cs row))
      split true later = added_after c.2 row
      split false later = later

  pub adds-cuts : (cs : List (Change K V)) (l : List (K × V)) → IsAscending cmp cs → Ascends cmp l → adds cmp cs (cuts cmp cs l) ≡ changed cmp cs l
  adds-cuts cs l ascending asc = same_at cmp order (adds cmp cs (cuts cmp cs l)) (changed cmp cs l)
      (ascends-adds cmp order cs (cuts cmp cs l) (ascends-cuts cmp order cs l asc))
      (ascends-adds cmp order cs (removes cmp cs l) (ascends-removes cmp order cs l asc))
      (λ q. at-adds q cs (cuts cmp cs l) ascending ∙ ap (looked added q cs) (at-cuts q cs l ascending asc) ∙ looked_after q cs (at cmp q l) ∙ sym (at-adds q cs (removes cmp cs l) ascending ∙ ap (looked added q cs) (at-removes q cs l ascending asc)))

  -- after the deletions the changes are ready
  pub ready-removes : (cs : List (Change K V)) (l : List (K × V)) → IsAscending cmp cs → Ascends cmp l → AreOld cmp cs l → AreReady cmp cs (removes cmp cs l)
  ready-removes [] l ascending asc old = tt
  ready-removes (c ∷ cs) l ascending asc old =
      let left = remove_one cmp c.0 c.2 l in
      let sorted = ascends-remove cmp order c.0 c.2 l asc in
      let other = apart cmp order c cs ascending in
      (at-removes_apart c.0 cs left sorted other ∙ at-remove_same cmp order c.0 c.1 c.2 l asc old.0, ready-removes cs left ascending.1 sorted (old-remove cmp order c.0 c.2 cs l asc other old.1))

  pub gone-cuts : (cs : List (Change K V)) (l : List (K × V)) → IsAscending cmp cs → Ascends cmp l → AreGone cmp cs (cuts cmp cs l)
  gone-cuts [] l ascending asc = tt
  gone-cuts (c ∷ cs) l ascending asc =
      let left = without cmp c.0 l in
      let sorted = ascends-without cmp order c.0 l asc in
      (at-cuts_apart c.0 cs left sorted (apart cmp order c cs ascending) ∙ at-without cmp order c.0 l asc, gone-cuts cs left ascending.1 sorted)

  -- a row that is there stays there when rows are added
  pub there-adds : (q : K) (cs : List (Change K V)) (l : List (K × V)) → IsSome (at cmp q l) → IsSome (at cmp q (adds cmp cs l))
  there-adds q [] l there = there
  there-adds q (c ∷ cs) l there = there-adds q cs (add_one cmp c.0 c.2 l) (one c.2)
    where
      one : (new : Option V) → IsSome (at cmp q (add_one cmp c.0 new l))
      one None = there
      one (Some v) = there-put cmp order q c.0 v l there

  -- and as it is where its key isn't listed
  pub kept-adds : (q : K) (v : V) (cs : List (Change K V)) (l : List (K × V)) → IsAscending cmp cs → AreGone cmp cs l → at cmp q l ≡ Some v → at cmp q (adds cmp cs l) ≡ Some v
  kept-adds q v [] l ascending gone there = there
  kept-adds q v (c ∷ cs) l ascending gone there =
      let other : q ≢ c.0 = λ e. none-some (sym gone.0 ∙ ap (λ (x : K). at cmp x l) (sym e) ∙ there) in
      kept-adds q v cs (add_one cmp c.0 c.2 l) ascending.1 (gone-add cmp order c.0 c.2 cs l (apart cmp order c cs ascending) gone.1) (at-add_other cmp order q c.0 c.2 l other ∙ there)

  -- what isn't cut was there before, and stays to the end
  looked_cut : (f : Option V → Option V → Option V) (q : K) (cs : List (Change K V)) (row : Option V) (v : V) → looked cut q cs row ≡ Some v → (row ≡ Some v) × (looked f q cs (Some v) ≡ Some v)
  looked_cut f q [] row v is = (is, refl)
  looked_cut f q (c ∷ cs) row v is = split (is_eq (cmp q c.0)) (looked_cut f q cs row v) is
    where
      split : (b : Bool) → (looked cut q cs row ≡ Some v → (row ≡ Some v) × (looked f q cs (Some v) ≡ Some v)) → (if b then cut c.2 row else looked cut q cs row) ≡ Some v → (row ≡ Some v) × ((if b then f c.2 (Some v) else looked f q cs (Some v)) ≡ Some v)
      split true later none = absurd (none-some none)
      split false later stays = later stays

  pub before-cuts : (q : K) (v : V) (cs : List (Change K V)) (l : List (K × V)) → IsAscending cmp cs → Ascends cmp l → at cmp q (cuts cmp cs l) ≡ Some v → at cmp q l ≡ Some v
  before-cuts q v cs l ascending asc there = (looked_cut removed q cs (at cmp q l) v (sym (at-cuts q cs l ascending asc) ∙ there)).0

  pub after-cuts : (q : K) (v : V) (cs : List (Change K V)) (l : List (K × V)) → IsAscending cmp cs → Ascends cmp l → at cmp q (cuts cmp cs l) ≡ Some v → at cmp q (changed cmp cs l) ≡ Some v
  after-cuts q v cs l ascending asc there =
      let kept : looked added q cs (Some v) ≡ Some v = (looked_cut added q cs (at cmp q l) v (sym (at-cuts q cs l ascending asc) ∙ there)).1 in
      sym (ap (λ (x : List (K × V)). at cmp q x) (adds-cuts cs l ascending asc)) ∙ at-adds q cs (cuts cmp cs l) ascending ∙ ap (looked added q cs) there ∙ kept

  -- a row that is there before and after isn't removed in between
  looked_kept : (q : K) (cs : List (Change K V)) (row : Option V) → IsSome row → IsSome (looked added q cs (looked removed q cs row)) → IsSome (looked removed q cs row)
  looked_kept q [] row there after = there
  looked_kept q (c ∷ cs) row there after = split (is_eq (cmp q c.0)) (looked_kept q cs row there) after
    where
      kept : (new : Option V) → IsSome (added new (removed new row)) → IsSome (removed new row)
      kept None is = is
      kept (Some v) is = there

      split : (b : Bool) → (IsSome (looked added q cs (looked removed q cs row)) → IsSome (looked removed q cs row)) → IsSome (if b then added c.2 (if b then removed c.2 row else looked removed q cs row) else looked added q cs (if b then removed c.2 row else looked removed q cs row)) → IsSome (if b then removed c.2 row else looked removed q cs row)
      split true later is = kept c.2 is
      split false later is = later is

  pub kept-removes : (q : K) (cs : List (Change K V)) (l : List (K × V)) → IsAscending cmp cs → Ascends cmp l → IsSome (at cmp q l) → IsSome (at cmp q (changed cmp cs l)) → IsSome (at cmp q (removes cmp cs l))
  kept-removes q cs l ascending asc before after =
      let row = at cmp q l in
      subst (λ (o : Option V). IsSome o) (sym (at-removes q cs l ascending asc))
      (looked_kept q cs row before (subst (λ (o : Option V). IsSome o) (at-adds q cs (removes cmp cs l) ascending ∙ ap (looked added q cs) (at-removes q cs l ascending asc)) after))

-- how many writes the changes of a table take
rows_most : {V : Type 0} (row : Option V) → rows_in row ≤ 1
rows_most None = omega arith
rows_most (Some v) = omega arith

writes_most : {V : Type 0} (old new : Option V) → removals_in old new + rows_in new ≤ 1
writes_most old None = omega (arith, rows_most old)
writes_most old (Some v) = omega arith

pub table-writes : {K V : Type 0} (cs : List (Change K V)) → sum_over removals_in cs + sum_over new_rows_in cs ≤ length cs
table-writes [] = omega arith
table-writes (c ∷ cs) = omega (arith, table-writes cs, writes_most c.1 c.2)

pub route-writes : {K V : Type 0} (cs : List (Change K V)) → sum_over old_rows_in cs + sum_over new_rows_in cs ≤ 2 * length cs
route-writes [] = omega arith
route-writes (c ∷ cs) = omega (arith, route-writes cs, rows_most c.1, rows_most c.2)
