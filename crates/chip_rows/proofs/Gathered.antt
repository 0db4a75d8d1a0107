-- Entries that are put in order are those that are gathered.
use Rattle.std.proofs.Common.{◌≡◌, ◌≢◌, ℕ, suc, ◌+◌, true, false, List, [], ◌∷◌, None, Some, get_or, map, refl, sym, ap, ◌∙◌, subst, arith, inl, inr}
use Rattle.std.specs.List.{AllByRecursion, Contains, IsAmong, IsDistinct}
use Rattle.std.specs.List.Sorted.{IsPermutation, IsSortedByKey}
use Rattle.std.specs.Ordering.{is_eq, is_lt, nat_cmp, ordering_reverse}
use Rattle.std.specs.declared.cmp.Ordering.{Ordering}
use Rattle.std.specs.declared.cmp.Ordering.TheVariants.{Less, Equal, Greater}
use Rattle.std.proofs.lemmas.List.Sorted.{Contains-permutation, IsPermutation-sym}
use Rattle.std.proofs.lemmas.Map.Keys.{IsDistinct-IsPermutation}
use Rattle.keyed.specs.Keyed.{IsKeyOrder, at, Ascends}
use Rattle.keyed.specs.KeyOrders.{nat_order}
use Rattle.keyed.specs.KeyedLaws.{by_order, decide, same_at, at-put, at-put_other}
use Rattle.keyed.specs.Members.{contains_cases, contains_first, contains_later, contains_none}
use Rattle.keyed.specs.Named.{AreDistinct, gathered, key_of}
use Rattle.keyed.specs.NamedLaws.{none_head, none_rest}
use Rattle.keyed.specs.ValueLaws.{among-at, at-among}
use Rattle.chip_core.specs.GatheredLaws.{ascends-gathered, at-gathered_none}
use Rattle.chip_core.specs.ListLaws.{by_option, none-some, some-is}
use Rattle.chip_rows.specs.BySlot.{AreApart, have_one_key}

turns : (o : Ordering) → is_eq (ordering_reverse o) ≡ is_eq o
turns Less = refl
turns Equal = refl
turns Greater = refl

-- entries that are apart and don't fall ascend
module _ {K V : Type 0} (cmp : K → K → Ordering) (order : IsKeyOrder cmp) where
  flips : (x y : K × V) → have_one_key cmp x y ≡ have_one_key cmp y x
  flips x y = sym (ap is_eq (order.total.antisymm y.0 x.0) ∙ turns (cmp x.0 y.0))

  pub apart-moved : (xs ys : List (K × V)) → IsPermutation xs ys → AreApart cmp xs → AreApart cmp ys
  apart-moved xs ys moved apart = IsDistinct-IsPermutation (have_one_key cmp) flips xs ys moved apart

  rises : (x y : K × V) → is_lt (cmp y.0 x.0) ≡ false → have_one_key cmp x y ≡ false → cmp x.0 y.0 ≡ Less
  rises x y no_fall apart = by_order (cmp x.0 y.0)
      (λ h. h)
      (λ h. let no : true ≡ false = sym (ap is_eq h) ∙ apart in absurd (cc))
      (λ h. let back : cmp y.0 x.0 ≡ Less = order.total.antisymm y.0 x.0 ∙ ap ordering_reverse h in let no : true ≡ false = sym (ap is_lt back) ∙ no_fall in absurd (cc))

  rest_sorted : (e : K × V) (es : List (K × V)) → IsSortedByKey (λ x. x.0) cmp (e ∷ es) → IsSortedByKey (λ x. x.0) cmp es
  rest_sorted e es sorted k d from lt =
      let next : suc k + 1 ≡ suc (k + 1) = omega arith in
      subst (λ (n : ℕ). is_lt (cmp (get_or (e ∷ es) n d).0 (get_or es k d).0) ≡ false) next (sorted (suc k) d (omega arith) (omega (arith, lt)))

  pub sorted-ascends : (l : List (K × V)) → IsSortedByKey (λ x. x.0) cmp l → AreApart cmp l → Ascends cmp l
  unfolding IsDistinct
  sorted-ascends [] sorted apart = tt
  sorted-ascends (e ∷ []) sorted apart = (tt, tt)
  sorted-ascends (e ∷ x ∷ xs) sorted apart = (rises e x (sorted 0 e (omega arith) (omega arith)) apart.0.0, sorted-ascends (x ∷ xs) (rest_sorted e (x ∷ xs) sorted) apart.1)

module _ {V N W : Type 0} (cmp : N → N → Ordering) (order : IsKeyOrder cmp) (entry : V → N × W) where
  abbrev name : V → N
  name v = (entry v).0

  -- the entry of each value
  abbrev pub entries_of : List (ℕ × V) → List (N × W)
  entries_of l = map (λ e. entry e.1) l

  differ : (n m : N) → n ≢ m → is_eq (cmp n m) ≡ false
  differ n m other = by_order (cmp n m) (λ h. rw h refl) (λ h. absurd (other (order.exact n m h))) (λ h. rw h refl)

  none_tied : (x : N × W) (l : List (ℕ × V)) → key_of cmp name x.0 l ≡ None → AllByRecursion (λ y. have_one_key cmp x y ≡ false) (entries_of l)
  none_tied x [] none = tt
  none_tied x (e ∷ es) none = (differ x.0 (name e.1) (λ h. none_head nat_cmp nat_order cmp order name x.0 e es none (sym h)), none_tied x es (none_rest nat_cmp nat_order cmp order name x.0 e es none))

  -- values with names of their own are apart
  pub distinct-apart : (l : List (ℕ × V)) → AreDistinct cmp name l → AreApart cmp (entries_of l)
  unfolding IsDistinct
  distinct-apart [] distinct = tt
  distinct-apart (e ∷ es) distinct = (none_tied (entry e.1) es distinct.0, distinct-apart es distinct.1)

  -- the entry of each value is gathered
  found : (l : List (ℕ × V)) → AreDistinct cmp name l → (q : N) (w : W) → Contains (entries_of l) (q, w) → at cmp q (gathered cmp entry l) ≡ Some w
  found [] distinct q w has = absurd (contains_none (q, w) has)
  found (e ∷ es) distinct q w has = elim (contains_cases (entry e.1) (entries_of es) (q, w) has) [
    | inl is ↦
        let P : N × W → Type 0 = λ p. at cmp p.0 (gathered cmp entry (e ∷ es)) ≡ Some p.1 in
        subst P (sym is) (at-put cmp order (entry e.1).0 (entry e.1).1 (gathered cmp entry es))
    | inr rest ↦
        let later : at cmp q (gathered cmp entry es) ≡ Some w = found es distinct.1 q w rest in
        let other : q ≢ name e.1 = λ s. none-some (sym (at-gathered_none nat_cmp nat_order cmp order entry (name e.1) es distinct.0) ∙ ap (λ (x : N). at cmp x (gathered cmp entry es)) (sym s) ∙ later) in
        at-put_other cmp order q (entry e.1).0 (entry e.1).1 (gathered cmp entry es) other ∙ later
  ]

  -- and what is gathered is the entry of a value
  among : (l : List (ℕ × V)) (q : N) (w : W) → at cmp q (gathered cmp entry l) ≡ Some w → Contains (entries_of l) (q, w)
  among [] q w is = absurd (none-some is)
  among (e ∷ es) q w is = elim (decide cmp order q (name e.1)) [
    | inl here ↦
        let there : at cmp q (gathered cmp entry (e ∷ es)) ≡ Some (entry e.1).1 = ap (λ (x : N). at cmp x (gathered cmp entry (e ∷ es))) here ∙ at-put cmp order (entry e.1).0 (entry e.1).1 (gathered cmp entry es) in
        let value : (entry e.1).1 ≡ w = some-is (sym there ∙ is) in
        let whole : entry e.1 ≡ (q, w) = ap (λ (n : N). (n, (entry e.1).1)) (sym here) ∙ ap (λ (x : W). (q, x)) value in
        let P : N × W → Type 0 = λ p. Contains (entries_of (e ∷ es)) p in
        subst P whole (contains_first (entry e.1) (entries_of es))
    | inr other ↦ contains_later (entry e.1) (entries_of es) (q, w) (among es q w (sym (at-put_other cmp order q (entry e.1).0 (entry e.1).1 (gathered cmp entry es) other) ∙ is))
  ]

  -- so the same entries in order are those that are gathered
  pub ordered-gathered : (l : List (ℕ × V)) (ys : List (N × W)) → AreDistinct cmp name l → IsPermutation (entries_of l) ys → Ascends cmp ys → ys ≡ gathered cmp entry l
  ordered-gathered l ys distinct moved asc = same_at cmp order ys (gathered cmp entry l) asc (ascends-gathered nat_cmp nat_order cmp order entry l) (λ q. by_option (at cmp q ys)
      (λ none. none ∙ sym (gone q none))
      (λ w there. there ∙ sym (found l distinct q w (of_ys q w there))))
    where
      of_ys : (q : N) (w : W) → at cmp q ys ≡ Some w → Contains (entries_of l) (q, w)
      of_ys q w there =
          let in_ys : IsAmong ys (q, w) = among-at cmp order q w ys there in
          Contains-permutation ys (entries_of l) (q, w) (IsPermutation-sym (entries_of l) ys moved) (in_ys.0, in_ys.1.0, sym in_ys.1.1)

      gone : (q : N) → at cmp q ys ≡ None → at cmp q (gathered cmp entry l) ≡ None
      gone q none = by_option (at cmp q (gathered cmp entry l))
          (λ absent. absent)
          (λ w there.
          let in_ys : Contains ys (q, w) = Contains-permutation (entries_of l) ys (q, w) moved (among l q w there) in
          let held : IsAmong ys (q, w) = (in_ys.0, (in_ys.1, sym in_ys.2)) in
          absurd (none-some (sym none ∙ at-among cmp order (q, w) ys asc held)))
