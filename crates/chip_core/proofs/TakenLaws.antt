-- Values in numbered slots: what is found under a slot, what a change of one slot does, and the free slots beside them.
use Rattle.std.proofs.Common.{◌≡◌, ◌≢◌, ℕ, zero, suc, ◌+◌, ◌<◌, ◌≤◌, List, [], ◌∷◌, ◌++◌, Option, None, Some, IsSome, All, length, length-append, get_or, set, take, refl, sym, ap, ◌∙◌, subst, arith, inl, inr}
use Rattle.std.specs.Option.{option_map}
use Rattle.std.specs.Ordering.{nat_cmp}
use Rattle.std.specs.declared.cmp.Ordering.{Ordering}
use Rattle.std.specs.declared.cmp.Ordering.TheVariants.{Less, Equal, Greater}
use Rattle.std.proofs.lemmas.Cmp.{ranked}
use Rattle.std.proofs.lemmas.List.{append-nil, get_or_default, get_or-set_same, get_or-set_other, get_or_append_left, get_or_at, get_or_past, get_or_push, length-set, length-take-le, length_push, take_more}
use Rattle.keyed.specs.Keyed.{at, put, without, Ascends, IsBelow}
use Rattle.keyed.specs.KeyOrders.{nat_order, nat_cmp-exact}
use Rattle.keyed.specs.KeyedLaws.{by_order, decide, same_at, at-put, at-put_other, at-without, at-without_other, ascends-put, ascends-without, length-put_new, length-without}
use Rattle.keyed.specs.ValueLaws.{length-put_there}
use Rattle.sorted_table.specs.Rows.{first_of}
use Rattle.chip_core.specs.Slots.{IsLowestFree}
use Rattle.chip_core.specs.Tables.{IsSlotted}
use Rattle.chip_core.specs.Taken.{AreFree, AreNamed, gap_of, taken}

over : (x y : ℕ) → nat_cmp x y ≡ Greater → y < x
over x y h = rw h at (ranked x y (nat_cmp x y) refl)

under : (x y : ℕ) → nat_cmp x y ≡ Less → x < y
under x y h = rw h at (ranked x y (nat_cmp x y) refl)

less : (x y : ℕ) → x < y → nat_cmp x y ≡ Less
less x y lt = by_order (nat_cmp x y) (λ h. h) (λ h. absurd (omega (arith, lt, nat_cmp-exact x y h))) (λ h. absurd (omega (arith, lt, over x y h)))

equal : (x y : ℕ) → x ≡ y → nat_cmp x y ≡ Equal
equal x y is = by_order (nat_cmp x y) (λ h. absurd (omega (arith, is, under x y h))) (λ h. h) (λ h. absurd (omega (arith, is, over x y h)))

more : (x y : ℕ) → y < x → nat_cmp x y ≡ Greater
more x y lt = by_order (nat_cmp x y) (λ h. absurd (omega (arith, lt, under x y h))) (λ h. absurd (omega (arith, lt, nat_cmp-exact x y h))) (λ h. h)

pub by_held : {T G : Type 0} (o : Option T) → (o ≡ None → G) → ((x : T) → o ≡ Some x → G) → G
by_held None f g = f refl
by_held (Some x) f g = g x refl

some_row : {V : Type 0} (k : ℕ) (l : List (ℕ × V)) → IsSome (at nat_cmp k l) → 0 < length l
some_row k [] there = absurd (cc)
some_row k (e ∷ es) there = omega arith

pub mapped_there : {T U : Type 0} (f : T → U) (o : Option T) (u : U) → option_map f o ≡ Some u → IsSome o
mapped_there f None u is = absurd (cc)
mapped_there f (Some x) u is = refl

module _ {V : Type 0} where
  low : (n m : ℕ) (slots : List (Option V)) → m < n → at nat_cmp m (taken n slots) ≡ None
  low n m [] lt = refl
  low n m (None ∷ os) lt = low (n + 1) m os (omega (arith, lt))
  low n m (Some v ∷ os) lt = rw (less m n lt) refl

  at_from : (n q : ℕ) (slots : List (Option V)) → at nat_cmp (n + q) (taken n slots) ≡ get_or slots q None
  at_from n q [] = refl
  at_from n zero (None ∷ os) = low (n + 1) (n + zero) os (omega arith)
  at_from n (suc q) (None ∷ os) = let next : n + suc q ≡ n + 1 + q = omega arith in ap (λ (m : ℕ). at nat_cmp m (taken (n + 1) os)) next ∙ at_from (n + 1) q os
  at_from n zero (Some v ∷ os) = rw (equal (n + zero) n (omega arith)) refl
  at_from n (suc q) (Some v ∷ os) = let next : n + suc q ≡ n + 1 + q = omega arith in rw (more (n + suc q) n (omega arith)) (ap (λ (m : ℕ). at nat_cmp m (taken (n + 1) os)) next ∙ at_from (n + 1) q os)

  -- what is found under a slot is what it holds
  pub at-taken : (q : ℕ) (slots : List (Option V)) → at nat_cmp q (taken 0 slots) ≡ get_or slots q None
  at-taken q slots = let from : q ≡ 0 + q = omega arith in ap (λ (m : ℕ). at nat_cmp m (taken 0 slots)) from ∙ at_from 0 q slots

  below_taken : (k n : ℕ) (slots : List (Option V)) → k < n → IsBelow nat_cmp k (taken n slots)
  below_taken k n [] lt = tt
  below_taken k n (None ∷ os) lt = below_taken k (n + 1) os (omega (arith, lt))
  below_taken k n (Some v ∷ os) lt = less k n lt

  pub ascends-taken : (n : ℕ) (slots : List (Option V)) → Ascends nat_cmp (taken n slots)
  ascends-taken n [] = tt
  ascends-taken n (None ∷ os) = ascends-taken (n + 1) os
  ascends-taken n (Some v ∷ os) = (below_taken n (n + 1) os (omega arith), ascends-taken (n + 1) os)

  pub taken-push : (n : ℕ) (slots : List (Option V)) (o : Option V) → taken n (slots ++ o ∷ []) ≡ taken n slots ++ taken (n + length slots) (o ∷ [])
  taken-push n [] o = let here : n ≡ n + 0 = omega arith in ap (λ (m : ℕ). taken m (o ∷ [])) here
  taken-push n (None ∷ os) o = let next : n + 1 + length os ≡ n + suc (length os) = omega arith in taken-push (n + 1) os o ∙ ap (λ (m : ℕ). taken (n + 1) os ++ taken m (o ∷ [])) next
  taken-push n (Some v ∷ os) o = let next : n + 1 + length os ≡ n + suc (length os) = omega arith in ap (λ (l : List (ℕ × V)). (n, v) ∷ l) (taken-push (n + 1) os o ∙ ap (λ (m : ℕ). taken (n + 1) os ++ taken m (o ∷ [])) next)

  pub taken-more : (n : ℕ) (slots : List (Option V)) (o : Option V) → n < length slots → o ≡ get_or slots n o → taken 0 (take (n + 1) slots) ≡ taken 0 (take n slots) ++ taken n (o ∷ [])
  taken-more n slots o lt is =
      let so_far : 0 + length (take n slots) ≡ n = omega (arith, length-take-le n slots (omega (arith, lt))) in
      ap (λ l. taken 0 l) (take_more slots n o lt ∙ ap (λ (x : Option V). take n slots ++ x ∷ []) (sym is)) ∙ taken-push 0 (take n slots) o ∙ ap (λ (m : ℕ). taken 0 (take n slots) ++ taken m (o ∷ [])) so_far

  -- a value that comes to a slot, and one that goes
  pub taken-set : (slot : ℕ) (v : V) (slots : List (Option V)) → slot < length slots → taken 0 (set slots slot (Some v)) ≡ put nat_cmp slot v (taken 0 slots)
  taken-set slot v slots lt =
      same_at nat_cmp nat_order (taken 0 (set slots slot (Some v))) (put nat_cmp slot v (taken 0 slots)) (ascends-taken 0 (set slots slot (Some v))) (ascends-put nat_cmp nat_order slot v (taken 0 slots) (ascends-taken 0 slots))
      (λ q. elim (decide nat_cmp nat_order q slot) [
        | inl here ↦ at-taken q (set slots slot (Some v)) ∙ subst (λ (m : ℕ). get_or (set slots slot (Some v)) m None ≡ at nat_cmp m (put nat_cmp slot v (taken 0 slots))) (sym here) (get_or-set_same slots slot (Some v) None lt ∙ sym (at-put nat_cmp nat_order slot v (taken 0 slots)))
        | inr other ↦ at-taken q (set slots slot (Some v)) ∙ get_or-set_other slots slot q (Some v) None other ∙ sym (at-taken q slots) ∙ sym (at-put_other nat_cmp nat_order q slot v (taken 0 slots) other)
      ])

  pub taken-unset : (slot : ℕ) (slots : List (Option V)) → slot < length slots → taken 0 (set slots slot None) ≡ without nat_cmp slot (taken 0 slots)
  taken-unset slot slots lt =
      same_at nat_cmp nat_order (taken 0 (set slots slot None)) (without nat_cmp slot (taken 0 slots)) (ascends-taken 0 (set slots slot None)) (ascends-without nat_cmp nat_order slot (taken 0 slots) (ascends-taken 0 slots))
      (λ q. elim (decide nat_cmp nat_order q slot) [
        | inl here ↦ at-taken q (set slots slot None) ∙ subst (λ (m : ℕ). get_or (set slots slot None) m None ≡ at nat_cmp m (without nat_cmp slot (taken 0 slots))) (sym here) (get_or-set_same slots slot None None lt ∙ sym (at-without nat_cmp nat_order slot (taken 0 slots) (ascends-taken 0 slots)))
        | inr other ↦ at-taken q (set slots slot None) ∙ get_or-set_other slots slot q None None other ∙ sym (at-taken q slots) ∙ sym (at-without_other nat_cmp nat_order q slot (taken 0 slots) (ascends-taken 0 slots) other)
      ])

  -- the slots that hold values are those of the table
  pub taken_within : (slot : ℕ) (slots : List (Option V)) → IsSome (at nat_cmp slot (taken 0 slots)) → slot < length slots
  taken_within slot slots there = inside slot slots (subst (λ (o : Option V). IsSome o) (at-taken slot slots) there)
    where
      inside : (q : ℕ) (os : List (Option V)) → IsSome (get_or os q None) → q < length os
      inside q [] there = absurd (cc)
      inside zero (o ∷ os) there = omega arith
      inside (suc q) (o ∷ os) there = omega (arith, inside q os there)

  length-taken : (n : ℕ) (slots : List (Option V)) → length (taken n slots) ≤ length slots
  length-taken n [] = omega arith
  length-taken n (None ∷ os) = omega (arith, length-taken (n + 1) os)
  length-taken n (Some v ∷ os) = omega (arith, length-taken (n + 1) os)

  gap_none : (o : Option V) → gap_of o ≡ None → IsSome o
  gap_none None is = absurd (cc)
  gap_none (Some v) is = refl

  gap_some : (o : Option V) → gap_of o ≡ Some tt → o ≡ None
  gap_some None is = refl
  gap_some (Some v) is = absurd (cc)

  no_gap : (o : Option V) → IsSome o → gap_of o ≡ None
  no_gap None there = absurd (cc)
  no_gap (Some v) there = refl

  -- what is read in a slot is what is found under it
  pub read-taken : (slot : ℕ) (slots : List (Option V)) (o : Option V) → slot < length slots → o ≡ get_or slots slot o → at nat_cmp slot (taken 0 slots) ≡ o
  read-taken slot slots o lt is = at-taken slot slots ∙ get_or_default slots slot None o lt ∙ sym is

  pub past-taken : (slot : ℕ) (slots : List (Option V)) → length slots ≤ slot → at nat_cmp slot (taken 0 slots) ≡ None
  past-taken slot slots le = at-taken slot slots ∙ get_or_past slots slot None le

  -- slots whose names are distinct are a table's
  pub are_slotted : {N : Type 0} (cmp : N → N → Ordering) (name : V → N) (slots : List (Option V)) (free : List (ℕ × Unit {0})) (index : List (N × ℕ)) (capacity index_capacity : ℕ) → AreNamed cmp name slots free index capacity index_capacity → IsSlotted cmp name capacity (taken 0 slots)
  are_slotted cmp name slots free index capacity index_capacity are = record {
    ascends = ascends-taken 0 slots;
    distinct = are.distinct;
    fits = omega (arith, length-taken 0 slots, are.room);
    below = λ slot there. omega (arith, are.room, taken_within slot slots there);
  }

  module _ (slots : List (Option V)) (free : List (ℕ × Unit {0})) (are : AreFree slots free) where
    pub is_free : (slot : ℕ) → slot < length slots → at nat_cmp slot (taken 0 slots) ≡ None → at nat_cmp slot free ≡ Some tt
    is_free slot lt none = are.gaps slot lt ∙ ap gap_of (sym (at-taken slot slots) ∙ none)

    pub isnt_free : (slot : ℕ) (v : V) → at nat_cmp slot (taken 0 slots) ≡ Some v → at nat_cmp slot free ≡ None
    isnt_free slot v is = are.gaps slot (taken_within slot slots (rw is refl)) ∙ ap gap_of (sym (at-taken slot slots) ∙ is)

    pub not_free : (slot : ℕ) → IsSome (at nat_cmp slot (taken 0 slots)) → at nat_cmp slot free ≡ None
    not_free slot there = are.gaps slot (taken_within slot slots there) ∙ no_gap (get_or slots slot None) (subst (λ (o : Option V). IsSome o) (at-taken slot slots) there)

    -- and there is room for one free slot more
    pub gap_room : (slot : ℕ) → IsSome (at nat_cmp slot (taken 0 slots)) → length free < length slots
    gap_room slot there = omega (arith, are.count, some_row slot (taken 0 slots) there)

    -- nor where a slot is free is the table full
    pub name_room : (slot : ℕ) → slot < length slots → at nat_cmp slot (taken 0 slots) ≡ None → length (taken 0 slots) < length slots
    name_room slot lt none = omega (arith, are.count, some_row slot free (rw (is_free slot lt none) refl))

    -- no slot past the end is free
    pub none_past : (slot : ℕ) → length slots ≤ slot → at nat_cmp slot free ≡ None
    none_past slot le = by_held (at nat_cmp slot free) (λ none. none) (λ u is. absurd (omega (arith, le, are.within slot (rw is refl))))

    -- one slot more, which is free
    pub free_push : AreFree (slots ++ None ∷ []) (put nat_cmp (length slots) tt free)
    free_push = record {
      gaps = λ s lt. elim (decide nat_cmp nat_order s (length slots)) [
        | inl here ↦ subst (λ (m : ℕ). at nat_cmp m (put nat_cmp (length slots) tt free) ≡ gap_of (get_or (slots ++ None ∷ []) m None)) (sym here) (at-put nat_cmp nat_order (length slots) tt free ∙ ap gap_of (sym (get_or_push slots None None (length slots) refl)))
        | inr other ↦ at-put_other nat_cmp nat_order s (length slots) tt free other ∙ are.gaps s (before s other (omega (arith, lt, length_push slots None))) ∙ ap gap_of (sym (get_or_append_left slots (None ∷ []) None s (before s other (omega (arith, lt, length_push slots None)))))
      ];
      within = λ s there. elim (decide nat_cmp nat_order s (length slots)) [
        | inl here ↦ omega (arith, here, length_push slots None)
        | inr other ↦ omega (arith, length_push slots None, are.within s (subst (λ (o : Option (Unit {0})). IsSome o) (at-put_other nat_cmp nat_order s (length slots) tt free other) there))
      ];
      ascends = ascends-put nat_cmp nat_order (length slots) tt free are.ascends;
      count = omega (arith, are.count, length_push slots None, length-put_new nat_cmp nat_order (length slots) tt free (none_past (length slots) (omega arith)), ap length (taken-push 0 slots None ∙ append-nil (taken 0 slots)));
    }
      where
        before : (s : ℕ) → s ≢ length slots → s < length slots + 1 → s < length slots
        before s other lt = omega (arith, other, lt)

    -- a slot that is taken, and one that is freed
    pub free_take : (slot : ℕ) (v : V) → slot < length slots → at nat_cmp slot (taken 0 slots) ≡ None → AreFree (set slots slot (Some v)) (without nat_cmp slot free)
    free_take slot v within none = record {
      gaps = λ s lt. elim (decide nat_cmp nat_order s slot) [
        | inl here ↦ subst (λ (m : ℕ). at nat_cmp m (without nat_cmp slot free) ≡ gap_of (get_or (set slots slot (Some v)) m None)) (sym here) (at-without nat_cmp nat_order slot free are.ascends ∙ ap gap_of (sym (get_or-set_same slots slot (Some v) None within)))
        | inr other ↦ at-without_other nat_cmp nat_order s slot free are.ascends other ∙ are.gaps s (omega (arith, lt, length-set slots slot (Some v))) ∙ ap gap_of (sym (get_or-set_other slots slot s (Some v) None other))
      ];
      within = λ s there. elim (decide nat_cmp nat_order s slot) [
        | inl here ↦ omega (arith, here, within, length-set slots slot (Some v))
        | inr other ↦ omega (arith, length-set slots slot (Some v), are.within s (subst (λ (o : Option (Unit {0})). IsSome o) (at-without_other nat_cmp nat_order s slot free are.ascends other) there))
      ];
      ascends = ascends-without nat_cmp nat_order slot free are.ascends;
      count = omega (arith, are.count, length-set slots slot (Some v), length-without nat_cmp nat_order slot tt free (is_free slot within none), ap length (taken-set slot v slots within), length-put_new nat_cmp nat_order slot v (taken 0 slots) none);
    }

    pub free_give : (slot : ℕ) (v : V) → at nat_cmp slot (taken 0 slots) ≡ Some v → AreFree (set slots slot None) (put nat_cmp slot tt free)
    free_give slot v is =
        let within = taken_within slot slots (rw is refl) in
        record {
          gaps = λ s lt. elim (decide nat_cmp nat_order s slot) [
            | inl here ↦ subst (λ (m : ℕ). at nat_cmp m (put nat_cmp slot tt free) ≡ gap_of (get_or (set slots slot None) m None)) (sym here) (at-put nat_cmp nat_order slot tt free ∙ ap gap_of (sym (get_or-set_same slots slot None None within)))
            | inr other ↦ at-put_other nat_cmp nat_order s slot tt free other ∙ are.gaps s (omega (arith, lt, length-set slots slot None)) ∙ ap gap_of (sym (get_or-set_other slots slot s None None other))
          ];
          within = λ s there. elim (decide nat_cmp nat_order s slot) [
            | inl here ↦ omega (arith, here, within, length-set slots slot None)
            | inr other ↦ omega (arith, length-set slots slot None, are.within s (subst (λ (o : Option (Unit {0})). IsSome o) (at-put_other nat_cmp nat_order s slot tt free other) there))
          ];
          ascends = ascends-put nat_cmp nat_order slot tt free are.ascends;
          count = omega (arith, are.count, length-set slots slot None, length-put_new nat_cmp nat_order slot tt free (isnt_free slot v is), ap length (taken-unset slot slots within), length-without nat_cmp nat_order slot v (taken 0 slots) is);
        }

    -- another value in a slot that has one
    pub free_set : (slot : ℕ) (v w : V) → at nat_cmp slot (taken 0 slots) ≡ Some w → AreFree (set slots slot (Some v)) free
    free_set slot v w is =
        let within = taken_within slot slots (rw is refl) in
        record {
          gaps = λ s lt. elim (decide nat_cmp nat_order s slot) [
            | inl here ↦ subst (λ (m : ℕ). at nat_cmp m free ≡ gap_of (get_or (set slots slot (Some v)) m None)) (sym here) (isnt_free slot w is ∙ ap gap_of (sym (get_or-set_same slots slot (Some v) None within)))
            | inr other ↦ are.gaps s (omega (arith, lt, length-set slots slot (Some v))) ∙ ap gap_of (sym (get_or-set_other slots slot s (Some v) None other))
          ];
          within = λ s there. omega (arith, length-set slots slot (Some v), are.within s there);
          ascends = are.ascends;
          count = omega (arith, are.count, length-set slots slot (Some v), ap length (taken-set slot v slots within), length-put_there nat_cmp slot w v (taken 0 slots) is);
        }

  -- the first of the free slots is the lowest
  pub first_free : (slots : List (Option V)) (free : List (ℕ × Unit {0})) (e : ℕ × Unit {0}) → AreFree slots free → first_of free ≡ Some e → (e.0 < length slots) × IsLowestFree e.0 (taken 0 slots)
  first_free slots [] e are is = absurd (cc)
  first_free slots (f ∷ fs) e are is =
      let same : f ≡ e = cc in
      subst (λ (x : ℕ × Unit {0}). (x.0 < length slots) × IsLowestFree x.0 (taken 0 slots)) same (first slots f fs are)
    where
      first : (slots : List (Option V)) (f : ℕ × Unit {0}) (fs : List (ℕ × Unit {0})) → AreFree slots (f ∷ fs) → (f.0 < length slots) × IsLowestFree f.0 (taken 0 slots)
      first slots f fs are =
          let there : at nat_cmp f.0 (f ∷ fs) ≡ Some f.1 = rw (equal f.0 f.0 refl) refl in
          let within = are.within f.0 (rw there refl) in (
            within,
            record {
              free = at-taken f.0 slots ∙ gap_some (get_or slots f.0 None) (sym (are.gaps f.0 within) ∙ there);
              lower = λ n lt.
                  let gone : at nat_cmp n (f ∷ fs) ≡ None = rw (less n f.0 lt) refl in
                  subst (λ (o : Option V). IsSome o) (sym (at-taken n slots)) (gap_none (get_or slots n None) (sym (are.gaps n (omega (arith, lt, within))) ∙ gone));
            },
          )

  pub some_free : (slots : List (Option V)) (free : List (ℕ × Unit {0})) → AreFree slots free → length (taken 0 slots) < length slots → first_of free ≡ None → ⊥
  some_free slots [] are few none = omega (arith, are.count, few)
  some_free slots (f ∷ fs) are few none = absurd (cc)

  -- rows that come one after another, by ascending slot
  before_later : (k : ℕ) (a : List (ℕ × V)) (e : ℕ × V) (b : List (ℕ × V)) → IsBelow nat_cmp k (a ++ e ∷ b) → Ascends nat_cmp (a ++ e ∷ b) → k < e.0
  before_later k [] e b below asc = under k e.0 below
  before_later k (h ∷ t) e b below asc = omega (arith, under k h.0 below, before_later h.0 t e b asc.0 asc.1)

  pub next_absent : (a : List (ℕ × V)) (e : ℕ × V) (b : List (ℕ × V)) → Ascends nat_cmp (a ++ e ∷ b) → at nat_cmp e.0 a ≡ None
  next_absent [] e b asc = refl
  next_absent (h ∷ t) e b asc = rw (more e.0 h.0 (before_later h.0 t e b asc.0 asc.1)) (next_absent t e b asc.1)

  pub next_put : (a : List (ℕ × V)) (e : ℕ × V) (b : List (ℕ × V)) → Ascends nat_cmp (a ++ e ∷ b) → put nat_cmp e.0 e.1 a ≡ a ++ e ∷ []
  next_put [] e b asc = refl
  next_put (h ∷ t) e b asc = rw (more e.0 h.0 (before_later h.0 t e b asc.0 asc.1)) (ap (λ (l : List (ℕ × V)). h ∷ l) (next_put t e b asc.1))

  -- rows by ascending slot are no more than the slots
  pub few_rows : (e : ℕ × V) (es : List (ℕ × V)) (n : ℕ) → Ascends nat_cmp (e ∷ es) → All (λ row. row.0 < n) (e ∷ es) → e.0 + length (e ∷ es) ≤ n
  few_rows e [] n asc all = omega (arith, all 0 e (omega arith))
  few_rows e (x ∷ xs) n asc all = omega (arith, under e.0 x.0 asc.0, few_rows x xs n asc.1 (λ k d lt. all (suc k) d (omega (arith, lt))))

  pub few_slots : (rows : List (ℕ × V)) (n : ℕ) → Ascends nat_cmp rows → All (λ row. row.0 < n) rows → length rows ≤ n
  few_slots [] n asc all = omega arith
  few_slots (e ∷ es) n asc all = omega (arith, few_rows e es n asc all)

  pub next_below : (a : List (ℕ × V)) (e : ℕ × V) (b : List (ℕ × V)) (n : ℕ) → All (λ row. row.0 < n) (a ++ e ∷ b) → e.0 < n
  next_below a e b n all = subst (λ (x : ℕ × V). x.0 < n) (get_or_at a e b e (length a) refl) (all (length a) e (omega (arith, length-append a (e ∷ b))))
