-- Two lists of rows, taken off side by side.
use Rattle.std.proofs.Common.{◌≡◌, ◌+◌, ◌<◌, ◌≤◌, ◌||◌, true, Option, None, Some, List, [], ◌∷◌, ◌++◌, length, drop, refl, sym, ap, ◌∙◌, subst, arith}
use Rattle.std.specs.Prelude.{MatchOption, option_to_list}
use Rattle.std.specs.Prelude.{HoldsAt}
use Rattle.std.specs.Borrow.{Bor}
use Rattle.std.specs.Option.{is_some, option_copied}
use Rattle.std.specs.Ordering.{ordering_reverse}
use Rattle.std.specs.declared.cmp.Ordering.{Ordering}
use Rattle.std.specs.declared.cmp.Ordering.TheVariants.{Less, Equal, Greater}
use Rattle.keyed.specs.Keyed.{Ascends, IsKeyOrder}
use Rattle.keyed.specs.KeyedLaws.{below_same}
use Rattle.keyed.specs.Ranges.{head_of}
use Rattle.chip_core.specs.ChangeLists.{Change}
use Rattle.row_compare.specs.Front.{AreTaken, IsLeast, first_of, row_of_both, row_of_new, row_of_old, with_first}

less_greater : Some Less ≡ Some Greater → ⊥
less_greater h = cc

equal_greater : Some Equal ≡ Some Greater → ⊥
equal_greater h = cc

equal_less : Some Equal ≡ Some Less → ⊥
equal_less h = cc

-- no list is its own rest
not_itself : {A : Type 0} {x : A} {xs rest : List A} → x ∷ xs ≡ rest → rest ≡ drop 1 (x ∷ xs) → ⊥
not_itself is left = omega (arith, ap length is, ap length left)

-- what stands in front of a queue
pub front_is : {A : Type 0} (found : Option (Bor A)) (xs : List A) → MatchOption found (length xs ≤ 0) (λ x. (0 < length xs) × HoldsAt (λ y. x.now ≡ y) xs 0) → option_copied found ≡ head_of xs
front_is None [] is = refl
front_is None (x ∷ xs) is = absurd (omega (arith, is))
front_is (Some b) [] is = absurd (omega (arith, is.0))
front_is (Some b) (x ∷ xs) is = ap Some (is.1 x)

turned_back : {K : Type 0} (cmp : K → K → Ordering) → IsKeyOrder cmp → (x y : K) → cmp x y ≡ Greater → cmp y x ≡ Less
turned_back cmp order x y h = order.total.antisymm y x ∙ ap ordering_reverse h

module _ {K V : Type 0} (cmp : K → K → Ordering) where
  none_left : (old new old_left new_left : List (K × V)) → first_of cmp (head_of old) (head_of new) ≡ None → (old ≡ []) × (new ≡ [])
  none_left [] [] old_left new_left is = (refl, refl)
  none_left [] (f ∷ fs) old_left new_left is = absurd (cc)
  none_left (e ∷ es) [] old_left new_left is = absurd (cc)
  none_left (e ∷ es) (f ∷ fs) old_left new_left is = absurd (cc)

  pub taken_none : (old new old_left new_left : List (K × V)) → None ≡ first_of cmp (head_of old) (head_of new) → AreTaken cmp old new old_left new_left None
  taken_none old new old_left new_left is = none_left old new old_left new_left (sym is)

  module _ (order : IsKeyOrder cmp) where
    old_first : (e : K × V) (es new : List (K × V)) → first_of cmp (Some e) (head_of new) ≡ Some Less → Ascends cmp (e ∷ es) → IsLeast cmp (e ∷ es) new es new (e.0, Some e.1, None)
    old_first e es [] is asc = record { old_is = refl; new_is = refl; below_old = asc.0; below_new = tt; there = refl }
    old_first e es (f ∷ fs) is asc = let less : cmp e.0 f.0 ≡ Less = cc in record { old_is = refl; new_is = refl; below_old = asc.0; below_new = less; there = refl }

    pub taken_old : (old new old_left : List (K × V)) (r : Option (K × V)) → old ≡ option_to_list r ++ old_left → old_left ≡ drop 1 old → Some Less ≡ first_of cmp (head_of old) (head_of new) → Ascends cmp old → AreTaken cmp old new old_left new (row_of_old r)
    taken_old [] [] old_left r is there first asc = absurd (cc)
    taken_old [] (f ∷ fs) old_left r is there first asc = absurd (less_greater first)
    taken_old (e ∷ es) new old_left None is there first asc = absurd (not_itself is there)
    taken_old (e ∷ es) new old_left (Some x) is there first asc =
        let P : List (K × V) → Type 0 = λ l. Some Less ≡ first_of cmp (head_of l) (head_of new) → Ascends cmp l → IsLeast cmp l new old_left new (x.0, Some x.1, None) in
        subst P (sym is) (λ one sorted. old_first x old_left new (sym one) sorted) first asc

    new_first : (f : K × V) (fs old : List (K × V)) → first_of cmp (head_of old) (Some f) ≡ Some Greater → Ascends cmp (f ∷ fs) → IsLeast cmp old (f ∷ fs) old fs (f.0, None, Some f.1)
    new_first f fs [] is asc = record { old_is = refl; new_is = refl; below_old = tt; below_new = asc.0; there = refl }
    new_first f fs (e ∷ es) is asc = let greater : cmp e.0 f.0 ≡ Greater = cc in record { old_is = refl; new_is = refl; below_old = turned_back cmp order e.0 f.0 greater; below_new = asc.0; there = refl }

    pub taken_new : (old new new_left : List (K × V)) (r : Option (K × V)) → new ≡ option_to_list r ++ new_left → new_left ≡ drop 1 new → Some Greater ≡ first_of cmp (head_of old) (head_of new) → Ascends cmp new → AreTaken cmp old new old new_left (row_of_new r)
    taken_new [] [] new_left r is there first asc = absurd (cc)
    taken_new (e ∷ es) [] new_left r is there first asc = absurd (less_greater (sym first))
    taken_new old (f ∷ fs) new_left None is there first asc = absurd (not_itself is there)
    taken_new old (f ∷ fs) new_left (Some x) is there first asc =
        let P : List (K × V) → Type 0 = λ l. Some Greater ≡ first_of cmp (head_of old) (head_of l) → Ascends cmp l → IsLeast cmp old l old new_left (x.0, None, Some x.1) in
        subst P (sym is) (λ one sorted. new_first x new_left old (sym one) sorted) first asc

    both_first : (e f : K × V) (es fs : List (K × V)) → cmp e.0 f.0 ≡ Equal → Ascends cmp (e ∷ es) → Ascends cmp (f ∷ fs) → IsLeast cmp (e ∷ es) (f ∷ fs) es fs (e.0, Some e.1, Some f.1)
    both_first e f es fs is asc bsc = record {
      old_is = refl;
      new_is = ap (λ (k : K). with_first k (Some f.1) fs) (sym (order.exact e.0 f.0 is));
      below_old = asc.0;
      below_new = below_same cmp order e.0 f.0 fs is bsc.0;
      there = refl;
    }

    pub taken_both : (old new old_left new_left : List (K × V)) (r s : Option (K × V)) → old ≡ option_to_list r ++ old_left → old_left ≡ drop 1 old → new ≡ option_to_list s ++ new_left → new_left ≡ drop 1 new → Some Equal ≡ first_of cmp (head_of old) (head_of new) → Ascends cmp old → Ascends cmp new → AreTaken cmp old new old_left new_left (row_of_both r s)
    taken_both [] [] old_left new_left r s is there js here first asc bsc = absurd (cc)
    taken_both [] (f ∷ fs) old_left new_left r s is there js here first asc bsc = absurd (equal_greater first)
    taken_both (e ∷ es) [] old_left new_left r s is there js here first asc bsc = absurd (equal_less first)
    taken_both (e ∷ es) (f ∷ fs) old_left new_left None s is there js here first asc bsc = absurd (not_itself is there)
    taken_both (e ∷ es) (f ∷ fs) old_left new_left (Some x) None is there js here first asc bsc = absurd (not_itself js here)
    taken_both (e ∷ es) (f ∷ fs) old_left new_left (Some x) (Some y) is there js here first asc bsc =
        let P : List (K × V) → Type 0 = λ l. Some Equal ≡ first_of cmp (head_of l) (head_of (f ∷ fs)) → Ascends cmp l → IsLeast cmp l (f ∷ fs) old_left new_left (x.0, Some x.1, Some y.1) in
        let Q : List (K × V) → Type 0 = λ l. Some Equal ≡ first_of cmp (Some x) (head_of l) → Ascends cmp (x ∷ old_left) → Ascends cmp l → IsLeast cmp (x ∷ old_left) l old_left new_left (x.0, Some x.1, Some y.1) in
        subst P (sym is) (λ one sorted. subst Q (sym js) (λ two olds news. let tied : cmp x.0 y.0 ≡ Equal = cc in both_first x y old_left new_left tied olds news) one sorted bsc) first asc

    -- the same, as the code has it
    pub least_old : (old new old_left : List (K × V)) (r : Option (K × V)) (result : Option (Change K V)) (o : Ordering) → result ≡ row_of_old r → old ≡ option_to_list r ++ old_left → old_left ≡ drop 1 old → o ≡ Less → Some o ≡ first_of cmp (head_of old) (head_of new) → Ascends cmp old → AreTaken cmp old new old_left new result
    least_old old new old_left r result o made is there way first asc = subst (λ (x : Option (Change K V)). AreTaken cmp old new old_left new x) (sym made) (taken_old old new old_left r is there (ap Some (sym way) ∙ first) asc)

    pub least_new : (old new new_left : List (K × V)) (r : Option (K × V)) (result : Option (Change K V)) (o : Ordering) → result ≡ row_of_new r → new ≡ option_to_list r ++ new_left → new_left ≡ drop 1 new → o ≡ Greater → Some o ≡ first_of cmp (head_of old) (head_of new) → Ascends cmp new → AreTaken cmp old new old new_left result
    least_new old new new_left r result o made is there way first asc = subst (λ (x : Option (Change K V)). AreTaken cmp old new old new_left x) (sym made) (taken_new old new new_left r is there (ap Some (sym way) ∙ first) asc)

    pub least_both : (old new old_left new_left : List (K × V)) (r s : Option (K × V)) (result : Option (Change K V)) (o : Ordering) → result ≡ row_of_both r s → old ≡ option_to_list r ++ old_left → old_left ≡ drop 1 old → new ≡ option_to_list s ++ new_left → new_left ≡ drop 1 new → o ≡ Equal → Some o ≡ first_of cmp (head_of old) (head_of new) → Ascends cmp old → Ascends cmp new → AreTaken cmp old new old_left new_left result
    least_both old new old_left new_left r s result o made is there js here way first asc bsc = subst (λ (x : Option (Change K V)). AreTaken cmp old new old_left new_left x) (sym made) (taken_both old new old_left new_left r s is there js here (ap Some (sym way) ∙ first) asc bsc)

  -- what is taken leaves fewer rows
  fewer_by : (old new old_left new_left : List (K × V)) (k : K) (a b : Option V) → old ≡ with_first k a old_left → new ≡ with_first k b new_left → (is_some a || is_some b) ≡ true → length old_left + length new_left < length old + length new
  fewer_by old new old_left new_left k None None is js there = absurd (cc)
  fewer_by old new old_left new_left k None (Some y) is js there = omega (arith, ap length is, ap length js)
  fewer_by old new old_left new_left k (Some x) None is js there = omega (arith, ap length is, ap length js)
  fewer_by old new old_left new_left k (Some x) (Some y) is js there = omega (arith, ap length is, ap length js)

  pub fewer : (old new old_left new_left : List (K × V)) (c : Change K V) → IsLeast cmp old new old_left new_left c → length old_left + length new_left < length old + length new
  fewer old new old_left new_left c least = fewer_by old new old_left new_left c.0 c.1 c.2 least.old_is least.new_is least.there
