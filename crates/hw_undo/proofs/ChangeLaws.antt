-- What changes do to the rows of a table, one by one.
use Rattle.std.proofs.Common.{◌≡◌, ◌≢◌, ◌≤◌, ◌<◌, ◌+◌, ℕ, Bool, suc, List, [], ◌∷◌, Option, None, Some, IsSome, length, drop, get_or, drop-cons, add-one, refl, sym, ap, ◌∙◌, subst, arith, inl, inr}
use Rattle.std.specs.declared.cmp.Ordering.{Ordering}
use Rattle.std.specs.declared.cmp.Ordering.TheVariants.{Less, Equal}
use Rattle.std.specs.List.{slice_get}
use Rattle.std.proofs.lemmas.Option.{slice_get-get_or}
use Rattle.hw_undo.specs.Undo.{GroupChanges, IsListed}
use Rattle.keyed.specs.Keyed.{IsKeyOrder, at, put, without, Ascends, IsBelow}
use Rattle.keyed.specs.KeyedLaws.{by_order, decide, same, at-put, at-put_other, at-without, at-without_other, ascends-put, ascends-without, length-put, length-put_new}
use Rattle.net_types.specs.Rows.{Rows}
use Rattle.chip_core.specs.ChangeLists.{AreGroupChanges, Change, IsAscending, IsGroupChange, by_key}
use Rattle.net_types.specs.declared.table.HostKey.{HostKey}
use Rattle.chip_core.specs.Changes.{remove_one, removes, add_one, adds, AreOld}
use Rattle.hw_undo.specs.Counts.{sum_over}
use Rattle.hw_undo.specs.Phases.{cuts, old_if, AreReady, AreGone}

-- an element that a loop reads
pub dropped : {A : Type 0} (xs : List A) (i : ℕ) (x : A) → i < length xs → x ≡ get_or xs i x → drop i xs ≡ x ∷ drop (i + 1) xs
dropped xs i x lt is = drop-cons xs i x lt ∙ ap (λ y. y ∷ drop (suc i) xs) (sym is) ∙ rw add-one refl

-- what is still to be written before the change and after it
pub sum-opened : {K V : Type 0} (count : Option V → Option V → ℕ) (rest next : List (Change K V)) (c : Change K V) → rest ≡ c ∷ next → sum_over count rest ≡ count c.1 c.2 + sum_over count next
sum-opened count rest next c is = ap (sum_over count) is

-- changes of groups, one by one
pub groups-turn : (rest next : List (Change (List HostKey) (List Bool))) (c : Change (List HostKey) (List Bool)) → rest ≡ c ∷ next → AreGroupChanges rest → IsGroupChange c × AreGroupChanges next
groups-turn rest next c is all = subst (λ (l : List (Change (List HostKey) (List Bool))). AreGroupChanges l) is all

-- a table with none under the key
pub without-absent : {K V : Type 0} (cmp : K → K → Ordering) (k : K) (l : List (K × V)) → at cmp k l ≡ None → without cmp k l ≡ l
without-absent cmp k [] none = refl
without-absent cmp k (e ∷ es) none = by_order (cmp k e.0)
    (λ h. rw h refl)
    (λ h. let no : Some e.1 ≡ None = rw h at none in absurd (cc))
    (λ h. let none2 : at cmp k es ≡ None = rw h at none in rw h (ap (λ r. e ∷ r) (without-absent cmp k es none2)))

-- the key is none of the listed ones
abbrev pub IsApart : {K V : Type 0} → K → List (Change K V) → Type 0
IsApart k [] = Unit {0}
IsApart k (c ∷ cs) = (c.0 ≢ k) × IsApart k cs

below-apart : {K : Type 0} (cmp : K → K → Ordering) → IsKeyOrder cmp → (j k : K) → cmp j k ≡ Less → k ≢ j
below-apart cmp order j k less e = let no : Less ≡ Equal = sym less ∙ ap (cmp j) e ∙ same cmp order j in absurd (cc)

module _ {K : Type 0} (cmp : K → K → Ordering) (order : IsKeyOrder cmp) {V : Type 0} where
  below_all : (k : K) (cs : List (Change K V)) → IsBelow cmp k (by_key cs) → Ascends cmp (by_key cs) → IsApart k cs
  below_all k [] below asc = tt
  below_all k (c ∷ cs) below asc = (below-apart cmp order k c.0 below, below_all k cs (lower cs asc.0) asc.1)
    where
      lower : (cs : List (Change K V)) → IsBelow cmp c.0 (by_key cs) → IsBelow cmp k (by_key cs)
      lower [] b = tt
      lower (d ∷ ds) b = order.total.trans k c.0 d.0 below b

  pub apart : (c : Change K V) (cs : List (Change K V)) → IsAscending cmp (c ∷ cs) → IsApart c.0 cs
  apart c cs asc = below_all c.0 cs asc.0 asc.1

  -- a row removed
  pub at-remove_other : (q k : K) (new : Option V) (l : List (K × V)) → Ascends cmp l → q ≢ k → at cmp q (remove_one cmp k new l) ≡ at cmp q l
  at-remove_other q k None l asc other = at-without_other cmp order q k l asc other
  at-remove_other q k (Some v) l asc other = refl

  pub at-remove_same : (k : K) (old new : Option V) (l : List (K × V)) → Ascends cmp l → at cmp k l ≡ old → at cmp k (remove_one cmp k new l) ≡ old_if old new
  at-remove_same k old None l asc is = at-without cmp order k l asc
  at-remove_same k old (Some v) l asc is = is

  pub ascends-remove : (k : K) (new : Option V) (l : List (K × V)) → Ascends cmp l → Ascends cmp (remove_one cmp k new l)
  ascends-remove k None l asc = ascends-without cmp order k l asc
  ascends-remove k (Some v) l asc = asc

  pub ascends-removes : (cs : List (Change K V)) (l : List (K × V)) → Ascends cmp l → Ascends cmp (removes cmp cs l)
  ascends-removes [] l asc = asc
  ascends-removes (c ∷ cs) l asc = ascends-removes cs (remove_one cmp c.0 c.2 l) (ascends-remove c.0 c.2 l asc)

  pub ascends-cuts : (cs : List (Change K V)) (l : List (K × V)) → Ascends cmp l → Ascends cmp (cuts cmp cs l)
  ascends-cuts [] l asc = asc
  ascends-cuts (c ∷ cs) l asc = ascends-cuts cs (without cmp c.0 l) (ascends-without cmp order c.0 l asc)

  -- the later changes stay as they are when one row is removed
  pub old-remove : (k : K) (new : Option V) (cs : List (Change K V)) (l : List (K × V)) → Ascends cmp l → IsApart k cs → AreOld cmp cs l → AreOld cmp cs (remove_one cmp k new l)
  old-remove k new [] l asc other old = tt
  old-remove k new (c ∷ cs) l asc other old = (at-remove_other c.0 k new l asc other.0 ∙ old.0, old-remove k new cs l asc other.1 old.1)

  pub old-without : (k : K) (cs : List (Change K V)) (l : List (K × V)) → Ascends cmp l → IsApart k cs → AreOld cmp cs l → AreOld cmp cs (without cmp k l)
  old-without k cs l asc other old = old-remove k None cs l asc other old

  -- what is there after rows are removed was there before
  pub there-remove : (q k : K) (new : Option V) (l : List (K × V)) → Ascends cmp l → IsSome (at cmp q (remove_one cmp k new l)) → IsSome (at cmp q l)
  there-remove q k (Some v) l asc there = there
  there-remove q k None l asc there = elim (decide cmp order q k) [
    | inl here ↦ absurd (gone (at cmp q (without cmp k l)) there (subst (λ (x : K). at cmp x (without cmp k l) ≡ None) (sym here) (at-without cmp order k l asc)))
    | inr other ↦ subst (λ (o : Option V). IsSome o) (at-without_other cmp order q k l asc other) there
  ]
    where
      gone : (o : Option V) → IsSome o → o ≡ None → ⊥
      gone (Some v) there none = absurd (cc)
      gone None there none = absurd (cc)

  pub there-removes : (q : K) (cs : List (Change K V)) (l : List (K × V)) → Ascends cmp l → IsSome (at cmp q (removes cmp cs l)) → IsSome (at cmp q l)
  there-removes q [] l asc there = there
  there-removes q (c ∷ cs) l asc there = there-remove q c.0 c.2 l asc (there-removes q cs (remove_one cmp c.0 c.2 l) (ascends-remove c.0 c.2 l asc) there)

  -- a row added
  pub at-add_other : (q k : K) (new : Option V) (l : List (K × V)) → q ≢ k → at cmp q (add_one cmp k new l) ≡ at cmp q l
  at-add_other q k None l other = refl
  at-add_other q k (Some v) l other = at-put_other cmp order q k v l other

  pub ascends-add : (k : K) (new : Option V) (l : List (K × V)) → Ascends cmp l → Ascends cmp (add_one cmp k new l)
  ascends-add k None l asc = asc
  ascends-add k (Some v) l asc = ascends-put cmp order k v l asc

  pub ascends-adds : (cs : List (Change K V)) (l : List (K × V)) → Ascends cmp l → Ascends cmp (adds cmp cs l)
  ascends-adds [] l asc = asc
  ascends-adds (c ∷ cs) l asc = ascends-adds cs (add_one cmp c.0 c.2 l) (ascends-add c.0 c.2 l asc)

  -- a later change of other keys leaves a key as it is
  pub at-adds_apart : (q : K) (cs : List (Change K V)) (l : List (K × V)) → IsApart q cs → at cmp q (adds cmp cs l) ≡ at cmp q l
  at-adds_apart q [] l other = refl
  at-adds_apart q (c ∷ cs) l other = at-adds_apart q cs (add_one cmp c.0 c.2 l) other.1 ∙ at-add_other q c.0 c.2 l (λ s. other.0 (sym s))

  -- a new row is there after all are added
  pub at-adds_first : (rest next : List (Change K V)) (c : Change K V) (v : V) (l : List (K × V)) → rest ≡ c ∷ next → IsAscending cmp rest → c.2 ≡ Some v → at cmp c.0 (adds cmp rest l) ≡ Some v
  at-adds_first rest next c v l is ascending new =
      let other = apart c next (subst (λ (x : List (Change K V)). IsAscending cmp x) is ascending) in
      ap (λ (x : List (Change K V)). at cmp c.0 (adds cmp x l)) is ∙ at-adds_apart c.0 next (add_one cmp c.0 c.2 l) other ∙ ap (λ (o : Option V). at cmp c.0 (add_one cmp c.0 o l)) new ∙ at-put cmp order c.0 v l

  pub ready-add : (k : K) (new : Option V) (cs : List (Change K V)) (l : List (K × V)) → IsApart k cs → AreReady cmp cs l → AreReady cmp cs (add_one cmp k new l)
  ready-add k new [] l other ready = tt
  ready-add k new (c ∷ cs) l other ready = (at-add_other c.0 k new l other.0 ∙ ready.0, ready-add k new cs l other.1 ready.1)

  pub gone-add : (k : K) (new : Option V) (cs : List (Change K V)) (l : List (K × V)) → IsApart k cs → AreGone cmp cs l → AreGone cmp cs (add_one cmp k new l)
  gone-add k new [] l other gone = tt
  gone-add k new (c ∷ cs) l other gone = (at-add_other c.0 k new l other.0 ∙ gone.0, gone-add k new cs l other.1 gone.1)

  pub length-add : (k : K) (new : Option V) (l : List (K × V)) → length l ≤ length (add_one cmp k new l)
  length-add k None l = omega arith
  length-add k (Some v) l = length-put cmp order k v l

  pub length-adds : (cs : List (Change K V)) (l : List (K × V)) → length l ≤ length (adds cmp cs l)
  length-adds [] l = omega arith
  length-adds (c ∷ cs) l = omega (arith, length-adds cs (add_one cmp c.0 c.2 l), length-add c.0 c.2 l)

  -- a new row in a full table is one too many
  pub full-put : (most : ℕ) (k : K) (v : V) (l : List (K × V)) → at cmp k l ≡ None → length l ≡ most → most < length (put cmp k v l)
  full-put most k v l none full = omega (arith, length-put_new cmp order k v l none)

  -- one turn of each loop over the changes of a table: the rows that it leads to stay the same
  module _ (get : Rows → List (K × V)) (with_table : Rows → List (K × V) → Rows) (got : (rows : Rows) (l : List (K × V)) → get (with_table rows l) ≡ l) (twice : (rows : Rows) (l m : List (K × V)) → with_table (with_table rows l) m ≡ with_table rows m) where
    pub record RemoveTurn (next : List (Change K V)) (after aim : Rows) : Type 0 where
      pub goal : with_table after (removes cmp next (get after)) ≡ aim
      pub old : AreOld cmp next (get after)
      pub ascending : IsAscending cmp next

    pub remove-turn : (rest next : List (Change K V)) (c : Change K V) (before after goal : Rows) → rest ≡ c ∷ next → after ≡ with_table before (remove_one cmp c.0 c.2 (get before)) → with_table before (removes cmp rest (get before)) ≡ goal → AreOld cmp rest (get before) → IsAscending cmp rest → Ascends cmp (get before) → RemoveTurn next after goal
    remove-turn rest next c before after goal is step whole old ascending sorted =
        let old2 : AreOld cmp (c ∷ next) (get before) = subst (λ (x : List (Change K V)). AreOld cmp x (get before)) is old in
        let ascending2 : IsAscending cmp (c ∷ next) = subst (λ (x : List (Change K V)). IsAscending cmp x) is ascending in
        let table = remove_one cmp c.0 c.2 (get before) in
        let there : get after ≡ table = ap get step ∙ got before table in
        record {
          goal = ap (λ (x : Rows). with_table x (removes cmp next (get after))) step ∙ twice before table (removes cmp next (get after)) ∙ ap (λ (l : List (K × V)). with_table before (removes cmp next l)) there ∙ ap (λ (x : List (Change K V)). with_table before (removes cmp x (get before))) (sym is) ∙ whole;
          old = subst (λ (l : List (K × V)). AreOld cmp next l) (sym there) (old-remove c.0 c.2 next (get before) sorted (apart c next ascending2) old2.1);
          ascending = ascending2.1;
        }

    pub record CutTurn (next : List (Change K V)) (after aim : Rows) : Type 0 where
      pub goal : with_table after (cuts cmp next (get after)) ≡ aim
      pub old : AreOld cmp next (get after)
      pub ascending : IsAscending cmp next

    pub cut-turn : (rest next : List (Change K V)) (c : Change K V) (before after goal : Rows) → rest ≡ c ∷ next → after ≡ with_table before (without cmp c.0 (get before)) → with_table before (cuts cmp rest (get before)) ≡ goal → AreOld cmp rest (get before) → IsAscending cmp rest → Ascends cmp (get before) → CutTurn next after goal
    cut-turn rest next c before after goal is step whole old ascending sorted =
        let old2 : AreOld cmp (c ∷ next) (get before) = subst (λ (x : List (Change K V)). AreOld cmp x (get before)) is old in
        let ascending2 : IsAscending cmp (c ∷ next) = subst (λ (x : List (Change K V)). IsAscending cmp x) is ascending in
        let table = without cmp c.0 (get before) in
        let there : get after ≡ table = ap get step ∙ got before table in
        record {
          goal = ap (λ (x : Rows). with_table x (cuts cmp next (get after))) step ∙ twice before table (cuts cmp next (get after)) ∙ ap (λ (l : List (K × V)). with_table before (cuts cmp next l)) there ∙ ap (λ (x : List (Change K V)). with_table before (cuts cmp x (get before))) (sym is) ∙ whole;
          old = subst (λ (l : List (K × V)). AreOld cmp next l) (sym there) (old-without c.0 next (get before) sorted (apart c next ascending2) old2.1);
          ascending = ascending2.1;
        }

    pub record AddTurn (next : List (Change K V)) (after aim : Rows) : Type 0 where
      pub goal : with_table after (adds cmp next (get after)) ≡ aim
      pub ready : AreReady cmp next (get after)
      pub ascending : IsAscending cmp next

    pub add-turn : (rest next : List (Change K V)) (c : Change K V) (before after goal : Rows) → rest ≡ c ∷ next → after ≡ with_table before (add_one cmp c.0 c.2 (get before)) → with_table before (adds cmp rest (get before)) ≡ goal → AreReady cmp rest (get before) → IsAscending cmp rest → AddTurn next after goal
    add-turn rest next c before after goal is step whole ready ascending =
        let ready2 : AreReady cmp (c ∷ next) (get before) = subst (λ (x : List (Change K V)). AreReady cmp x (get before)) is ready in
        let ascending2 : IsAscending cmp (c ∷ next) = subst (λ (x : List (Change K V)). IsAscending cmp x) is ascending in
        let table = add_one cmp c.0 c.2 (get before) in
        let there : get after ≡ table = ap get step ∙ got before table in
        record {
          goal = ap (λ (x : Rows). with_table x (adds cmp next (get after))) step ∙ twice before table (adds cmp next (get after)) ∙ ap (λ (l : List (K × V)). with_table before (adds cmp next l)) there ∙ ap (λ (x : List (Change K V)). with_table before (adds cmp x (get before))) (sym is) ∙ whole;
          ready = subst (λ (l : List (K × V)). AreReady cmp next l) (sym there) (ready-add c.0 c.2 next (get before) (apart c next ascending2) ready2.1);
          ascending = ascending2.1;
        }

    pub record AddGoneTurn (next : List (Change K V)) (after aim : Rows) : Type 0 where
      pub goal : with_table after (adds cmp next (get after)) ≡ aim
      pub gone : AreGone cmp next (get after)
      pub ascending : IsAscending cmp next

    pub add_gone-turn : (rest next : List (Change K V)) (c : Change K V) (before after goal : Rows) → rest ≡ c ∷ next → after ≡ with_table before (add_one cmp c.0 c.2 (get before)) → with_table before (adds cmp rest (get before)) ≡ goal → AreGone cmp rest (get before) → IsAscending cmp rest → AddGoneTurn next after goal
    add_gone-turn rest next c before after goal is step whole gone ascending =
        let gone2 : AreGone cmp (c ∷ next) (get before) = subst (λ (x : List (Change K V)). AreGone cmp x (get before)) is gone in
        let ascending2 : IsAscending cmp (c ∷ next) = subst (λ (x : List (Change K V)). IsAscending cmp x) is ascending in
        let table = add_one cmp c.0 c.2 (get before) in
        let there : get after ≡ table = ap get step ∙ got before table in
        record {
          goal = ap (λ (x : Rows). with_table x (adds cmp next (get after))) step ∙ twice before table (adds cmp next (get after)) ∙ ap (λ (l : List (K × V)). with_table before (adds cmp next l)) there ∙ ap (λ (x : List (Change K V)). with_table before (adds cmp x (get before))) (sym is) ∙ whole;
          gone = subst (λ (l : List (K × V)). AreGone cmp next l) (sym there) (gone-add c.0 c.2 next (get before) (apart c next ascending2) gone2.1);
          ascending = ascending2.1;
        }

    -- where one row has no room, all rows together have none
    pub add-full : (most : ℕ) (rest next : List (Change K V)) (c : Change K V) (before goal : Rows) → rest ≡ c ∷ next → with_table before (adds cmp rest (get before)) ≡ goal → most < length (add_one cmp c.0 c.2 (get before)) → most < length (get goal)
    add-full most rest next c before goal is whole full =
        let all : adds cmp next (add_one cmp c.0 c.2 (get before)) ≡ get goal = ap (λ (x : List (Change K V)). adds cmp x (get before)) (sym is) ∙ sym (got before (adds cmp rest (get before))) ∙ ap get whole in
        omega (arith, length-adds next (add_one cmp c.0 c.2 (get before)), ap (length {A = K × V}) all)

-- a change that was read is listed at its place
pub listed-at : (changes : GroupChanges) (place : ℕ) (c : Change (List HostKey) (List Bool)) → place < length changes → c ≡ get_or changes place c → (groups : GroupChanges) → groups ≡ changes → IsListed groups place c.0 c.1
listed-at changes place c lt is groups same = record { new = c.2; is = ap (λ (l : GroupChanges). slice_get l place) same ∙ slice_get-get_or changes place c lt ∙ ap Some (sym is) }
