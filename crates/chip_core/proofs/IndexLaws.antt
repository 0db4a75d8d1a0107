-- An index that is made at once: the names of all rows with their slots, sorted.
use Rattle.std.proofs.Common.{◌≡◌, ◌≢◌, ℕ, zero, suc, ◌+◌, ◌<◌, Bool, true, false, List, [], ◌∷◌, Option, None, Some, length, get_or, map, refl, sym, ap, ◌∙◌, subst, arith}
use Rattle.std.specs.List.{AllByRecursion, IsAmong, IsDistinct}
use Rattle.std.specs.List.Sorted.{IsPermutation, IsSorted}
use Rattle.std.specs.Ordering.{nat_cmp, is_eq, is_lt, ordering_then, ordering_reverse}
use Rattle.std.specs.declared.cmp.Ordering.{Ordering}
use Rattle.std.specs.declared.cmp.Ordering.TheVariants.{Less, Equal, Greater}
use Rattle.std.proofs.lemmas.List.Sorted.{Contains-permutation, IsPermutation-sym}
use Rattle.std.proofs.lemmas.Map.Keys.{IsDistinct-IsPermutation}
use Rattle.keyed.specs.Keyed.{IsKeyOrder, at, Ascends, IsBelow}
use Rattle.keyed.specs.KeyOrders.{nat_order}
use Rattle.keyed.specs.KeyedLaws.{by_order, same}
use Rattle.keyed.specs.Named.{key_of, AreDistinct}
use Rattle.keyed.specs.NamedLaws.{head_found, head_passed, none_head, none_rest}
use Rattle.keyed.specs.ValueLaws.{at-among, among-at}
use Rattle.chip_core.proofs.SlotLaws.{Finds}

by_option : {T G : Type 0} (o : Option T) → (o ≡ None → G) → ((x : T) → o ≡ Some x → G) → G
by_option None f g = f refl
by_option (Some x) f g = g x refl

module _ {N V : Type 0} (cmp : N → N → Ordering) (order : IsKeyOrder cmp) (name : V → N) where
  -- the name and the slot of each row
  abbrev pub pairs : List (ℕ × V) → List (N × ℕ)
  pairs rows = map (λ e. (name e.1, e.0)) rows

  -- whether two have one name
  abbrev tied : N × ℕ → N × ℕ → Bool
  tied p q = is_eq (cmp p.0 q.0)

  turns : (o : Ordering) → is_eq (ordering_reverse o) ≡ is_eq o
  turns Less = refl
  turns Equal = refl
  turns Greater = refl

  flips : (p q : N × ℕ) → tied p q ≡ tied q p
  flips p q = sym (ap is_eq (order.total.antisymm q.0 p.0) ∙ turns (cmp p.0 q.0))

  apart : (n m : N) → n ≢ m → is_eq (cmp n m) ≡ false
  apart n m other = by_order (cmp n m) (λ h. rw h refl) (λ h. absurd (other (order.exact n m h))) (λ h. rw h refl)

  differ : (n m : N) → is_eq (cmp n m) ≡ false → n ≢ m
  differ n m h e = let no : true ≡ false = sym (ap is_eq (same cmp order n)) ∙ ap (λ (x : N). is_eq (cmp n x)) e ∙ h in cc

  -- distinct names are pairs of which no two are tied
  none_tied : (n : N) (k : ℕ) (rows : List (ℕ × V)) → key_of cmp name n rows ≡ None → AllByRecursion (λ q. tied (n, k) q ≡ false) (pairs rows)
  none_tied n k [] none = tt
  none_tied n k (e ∷ es) none = (apart n (name e.1) (λ h. none_head nat_cmp nat_order cmp order name n e es none (sym h)), none_tied n k es (none_rest nat_cmp nat_order cmp order name n e es none))

  tied_none : (n : N) (k : ℕ) (rows : List (ℕ × V)) → AllByRecursion (λ q. tied (n, k) q ≡ false) (pairs rows) → key_of cmp name n rows ≡ None
  tied_none n k [] all = refl
  tied_none n k (e ∷ es) all = head_passed nat_cmp nat_order cmp order name n e es (λ h. differ n (name e.1) all.0 (sym h)) ∙ tied_none n k es all.1

  distinct-pairs : (rows : List (ℕ × V)) → AreDistinct cmp name rows → IsDistinct tied (pairs rows)
  unfolding IsDistinct
  distinct-pairs [] distinct = tt
  distinct-pairs (e ∷ es) distinct = (none_tied (name e.1) e.0 es distinct.0, distinct-pairs es distinct.1)

  pairs-distinct : (rows : List (ℕ × V)) → IsDistinct tied (pairs rows) → AreDistinct cmp name rows
  unfolding IsDistinct
  pairs-distinct [] distinct = tt
  pairs-distinct (e ∷ es) distinct = (tied_none (name e.1) e.0 es distinct.0, pairs-distinct es distinct.1)

  -- pairs that ascend are distinct
  below_all : (n : N) (k : ℕ) (l : List (N × ℕ)) → IsBelow cmp n l → Ascends cmp l → AllByRecursion (λ q. tied (n, k) q ≡ false) l
  below_all n k [] b asc = tt
  below_all n k (e ∷ es) b asc = (rw b refl, below_all n k es (lower es b asc.0) asc.1)
    where
      lower : (es : List (N × ℕ)) → cmp n e.0 ≡ Less → IsBelow cmp e.0 es → IsBelow cmp n es
      lower [] lt below = tt
      lower (x ∷ xs) lt below = order.total.trans n e.0 x.0 lt below

  ascends-distinct : (l : List (N × ℕ)) → Ascends cmp l → IsDistinct tied l
  unfolding IsDistinct
  ascends-distinct [] asc = tt
  ascends-distinct (e ∷ es) asc = (below_all e.0 e.1 es asc.0 asc.1, ascends-distinct es asc.1)

  -- and sorted ones that are distinct ascend
  abbrev pair_cmp : N × ℕ → N × ℕ → Ordering
  pair_cmp p q = ordering_then (cmp p.0 q.0) (nat_cmp p.1 q.1)

  not_less : (o p : Ordering) → is_lt (ordering_then o p) ≡ false → o ≢ Less
  not_less Less p h e = absurd (cc)
  not_less Equal p h e = absurd (cc)
  not_less Greater p h e = absurd (cc)

  rises : (a b : N × ℕ) → is_lt (pair_cmp b a) ≡ false → tied a b ≡ false → cmp a.0 b.0 ≡ Less
  rises a b sorted untied = by_order (cmp b.0 a.0)
      (λ h. absurd (not_less (cmp b.0 a.0) (nat_cmp b.1 a.1) sorted h))
      (λ h. absurd (differ a.0 b.0 untied (sym (order.exact b.0 a.0 h))))
      (λ h. order.total.antisymm a.0 b.0 ∙ ap ordering_reverse h)

  sorted_rest : (e : N × ℕ) (es : List (N × ℕ)) → IsSorted pair_cmp (e ∷ es) → IsSorted pair_cmp es
  sorted_rest e es sorted k d from lt =
      let next : suc k + 1 ≡ suc (k + 1) = omega arith in
      subst (λ (n : ℕ). is_lt (pair_cmp (get_or (e ∷ es) n d) (get_or es k d)) ≡ false) next (sorted (suc k) d (omega arith) (omega arith))

  sorted-ascends : (l : List (N × ℕ)) → IsSorted pair_cmp l → IsDistinct tied l → Ascends cmp l
  unfolding IsDistinct
  sorted-ascends [] sorted distinct = tt
  sorted-ascends (e ∷ []) sorted distinct = (tt, tt)
  sorted-ascends (e ∷ x ∷ xs) sorted distinct = (rises e x (sorted 0 e (omega arith) (omega arith)) distinct.0.0, sorted-ascends (x ∷ xs) (sorted_rest e (x ∷ xs) sorted) distinct.1)

  -- so a sorted index ascends exactly where names are distinct
  pub index_ascends : (rows : List (ℕ × V)) (index : List (N × ℕ)) → IsPermutation (pairs rows) index → IsSorted pair_cmp index → AreDistinct cmp name rows → Ascends cmp index
  index_ascends rows index moved sorted distinct = sorted-ascends index sorted (IsDistinct-IsPermutation tied flips (pairs rows) index moved (distinct-pairs rows distinct))

  pub index_distinct : (rows : List (ℕ × V)) (index : List (N × ℕ)) → IsPermutation (pairs rows) index → Ascends cmp index → AreDistinct cmp name rows
  index_distinct rows index moved asc = pairs-distinct rows (IsDistinct-IsPermutation tied flips index (pairs rows) (IsPermutation-sym (pairs rows) index moved) (ascends-distinct index asc))

  -- and then it finds each name's slot
  found_pair : (n : N) (k : ℕ) (rows : List (ℕ × V)) → key_of cmp name n rows ≡ Some k → IsAmong (pairs rows) (n, k)
  found_pair n k [] is = absurd (cc)
  found_pair n k (e ∷ es) is = by_order (cmp n (name e.1))
      (λ h. later (found_pair n k es (sym (head_passed nat_cmp nat_order cmp order name n e es (λ same_name. absurd (lost h same_name))) ∙ is)))
      (λ h. here h (sym (head_found nat_cmp nat_order cmp order name n e es (sym (order.exact n (name e.1) h))) ∙ is))
      (λ h. later (found_pair n k es (sym (head_passed nat_cmp nat_order cmp order name n e es (λ same_name. absurd (gained h same_name))) ∙ is)))
    where
      lost : cmp n (name e.1) ≡ Less → name e.1 ≡ n → ⊥
      lost h e2 = let no : Less ≡ Equal = sym h ∙ ap (cmp n) e2 ∙ same cmp order n in cc

      gained : cmp n (name e.1) ≡ Greater → name e.1 ≡ n → ⊥
      gained h e2 = let no : Greater ≡ Equal = sym h ∙ ap (cmp n) e2 ∙ same cmp order n in cc

      later : IsAmong (pairs es) (n, k) → IsAmong (pairs (e ∷ es)) (n, k)
      later there = (suc there.0, (omega (arith, there.1.0), there.1.1))

      here : cmp n (name e.1) ≡ Equal → Some e.0 ≡ Some k → IsAmong (pairs (e ∷ es)) (n, k)
      here h at_k = let slot : e.0 ≡ k = cc in (0, (omega arith, ap (λ (m : N). (m, k)) (order.exact n (name e.1) h) ∙ ap (λ (j : ℕ). (name e.1, j)) (sym slot)))

  no_pair : (n : N) (k : ℕ) (rows : List (ℕ × V)) (i : ℕ) → key_of cmp name n rows ≡ None → i < length (pairs rows) → (n, k) ≡ get_or (pairs rows) i (n, k) → ⊥
  no_pair n k [] i none lt is = absurd (omega arith)
  no_pair n k (e ∷ es) zero none lt is = none_head nat_cmp nat_order cmp order name n e es none (sym (ap (λ (p : N × ℕ). p.0) is))
  no_pair n k (e ∷ es) (suc i) none lt is = no_pair n k es i (none_rest nat_cmp nat_order cmp order name n e es none) (omega arith) is

  moved_to : (l m : List (N × ℕ)) (p : N × ℕ) → IsPermutation l m → IsAmong l p → IsAmong m p
  moved_to l m p moved there = let in_m = Contains-permutation l m p moved (there.0, there.1.0, sym there.1.1) in (in_m.0, (in_m.1, sym in_m.2))

  pub index_finds : (rows : List (ℕ × V)) (index : List (N × ℕ)) → IsPermutation (pairs rows) index → Ascends cmp index → Finds cmp order name index rows
  index_finds rows index moved asc n = by_option (key_of cmp name n rows)
      (λ none. by_option (at cmp n index)
      (λ gone. gone ∙ sym none)
      (λ k there. let in_rows = moved_to index (pairs rows) (n, k) (IsPermutation-sym (pairs rows) index moved) (among-at cmp order n k index there) in absurd (no_pair n k rows in_rows.0 none in_rows.1.0 in_rows.1.1)))
      (λ k found. at-among cmp order (n, k) index asc (moved_to (pairs rows) index (n, k) moved (found_pair n k rows found)) ∙ sym found)
