-- Rows that stand for entries by number: that the entries ascend, and where a number stands among them.
use Rattle.std.proofs.Common.{◌≡◌, ℕ, zero, suc, ◌≤◌, ◌<◌, List, [], ◌∷◌, None, Some, length, get_or, map, Err, Bool, true, false, IsTrue, All, add-one, subst, refl, sym, ap, ◌∙◌, arith}
use Rattle.std.specs.List.{AllAdjacentBelow, AllWithin, HoldsAt, IsAllAdjacentAnswer}
use Rattle.std.specs.List.Sorted.{IsNonDecreasingBy, IsSearchInRange, IsBinarySearchResult}
use Rattle.std.proofs.lemmas.Cmp.{tied_back, alike_right}
use Rattle.std.specs.Cmp.{IsTotalOrder}
use Rattle.std.specs.Ordering.{is_lt, nat_cmp, ordering_reverse, ordering_index}
use Rattle.std.specs.declared.cmp.Ordering.{Ordering}
use Rattle.std.specs.declared.cmp.Ordering.TheVariants.{Less, Equal, Greater}
use Rattle.keyed.specs.Keyed.{at, IsBelow, Ascends}
use Rattle.keyed.specs.KeyOrders.{nat_order}
use Rattle.keyed.specs.KeyedLaws.{by_order}

index_bound : (o : Ordering) → ordering_index o ≤ 2
index_bound Less = omega arith
index_bound Equal = omega arith
index_bound Greater = omega arith

is_less : (o : Ordering) → true ≡ is_lt o → o ≡ Less
is_less Less h = refl
is_less Equal h = absurd (cc)
is_less Greater h = absurd (cc)

isnt_less : (o : Ordering) → false ≡ is_lt o → o ≡ Less → ⊥
isnt_less Less h e = absurd (cc)
isnt_less Equal h e = absurd (cc)
isnt_less Greater h e = absurd (cc)

total : IsTotalOrder nat_cmp
total = nat_order.total

above : (x y : ℕ) → nat_cmp x y ≡ Less → nat_cmp y x ≡ Greater
above x y h = total.antisymm y x ∙ ap ordering_reverse h

under : (x y : ℕ) → nat_cmp x y ≡ Greater → nat_cmp y x ≡ Less
under x y h = total.antisymm y x ∙ ap ordering_reverse h

rises : (k a b : ℕ) → nat_cmp a b ≡ Less → ordering_index (nat_cmp a k) ≤ ordering_index (nat_cmp b k)
rises k a b lt = by_order (nat_cmp b k)
    (λ h. rw (h, total.trans a b k lt h) (omega arith))
    (λ h. rw (h, sym (alike_right total b k a h) ∙ lt) (omega arith))
    (λ h. rw h (index_bound (nat_cmp a k)))

module _ {A V : Type 0} (entry : A → ℕ × V) where
  below_each : (k : ℕ) (l : List A) (n : ℕ) (d : A) → IsBelow nat_cmp k (map entry l) → Ascends nat_cmp (map entry l) → n < length l → nat_cmp k (entry (get_or l n d)).0 ≡ Less
  below_each k [] n d b asc lt = absurd (omega arith)
  below_each k (e ∷ es) zero d b asc lt = b
  below_each k (e ∷ es) (suc n) d b asc lt = total.trans k (entry e).0 (entry (get_or es n d)).0 b (below_each (entry e).0 es n d asc.0 asc.1 (omega arith))

  answers_rise : (k : ℕ) (l : List A) → Ascends nat_cmp (map entry l) → IsNonDecreasingBy (λ e. ordering_index (nat_cmp (entry e).0 k)) l
  answers_rise k [] asc i j d le lt = absurd (omega arith)
  answers_rise k (e ∷ es) asc zero zero d le lt = omega arith
  answers_rise k (e ∷ es) asc zero (suc j) d le lt = rises k (entry e).0 (entry (get_or es j d)).0 (below_each (entry e).0 es j d asc.0 asc.1 (omega arith))
  answers_rise k (e ∷ es) asc (suc i) zero d le lt = absurd (omega arith)
  answers_rise k (e ∷ es) asc (suc i) (suc j) d le lt = answers_rise k es asc.1 i j d (omega arith) (omega arith)

  first_lower : (k : ℕ) (e : A) (es : List A) (n : ℕ) → Ascends nat_cmp (map entry (e ∷ es)) → n < length es → HoldsAt (λ x. nat_cmp (entry x).0 k ≡ Equal) es n → nat_cmp k (entry e).0 ≡ Greater
  first_lower k e es n asc lt here = above (entry e).0 k (sym (alike_right total (entry (get_or es n e)).0 k (entry e).0 (here e)) ∙ below_each (entry e).0 es n e asc.0 asc.1 lt)

  -- where the number stands
  pub at_place : (k : ℕ) (l : List A) (n : ℕ) (d : A) → Ascends nat_cmp (map entry l) → n < length l → HoldsAt (λ x. nat_cmp (entry x).0 k ≡ Equal) l n → at nat_cmp k (map entry l) ≡ Some (entry (get_or l n d)).1
  at_place k [] n d asc lt is = absurd (omega arith)
  at_place k (e ∷ es) zero d asc lt is = rw (tied_back total (entry e).0 k (is d)) refl
  at_place k (e ∷ es) (suc n) d asc lt is = rw (first_lower k e es n asc (omega arith) is) (at_place k es n d asc.1 (omega arith) is)

  -- where it stands nowhere
  at_gap : (k : ℕ) (l : List A) (n : ℕ) → n ≤ length l → AllWithin (λ x. nat_cmp (entry x).0 k ≡ Less) l 0 n → AllWithin (λ x. nat_cmp (entry x).0 k ≡ Greater) l n (length l) → at nat_cmp k (map entry l) ≡ None
  at_gap k [] n le low high = refl
  at_gap k (e ∷ es) zero le low high = rw (under (entry e).0 k (high 0 e (omega arith) (omega arith))) refl
  at_gap k (e ∷ es) (suc n) le low high = rw (above (entry e).0 k (low 0 e (omega arith) (omega arith))) (at_gap k es n (omega arith) (λ i d from to. low (suc i) d (omega arith) (omega arith)) (λ i d from to. high (suc i) d (omega arith) (omega arith)))

  pub at_none : (k : ℕ) (l : List A) (n : ℕ) → Ascends nat_cmp (map entry l) → IsSearchInRange (Err n) (length l) → IsBinarySearchResult (λ x. nat_cmp (entry x).0 k) l (Err n) → at nat_cmp k (map entry l) ≡ None
  at_none k l n asc le found = let parted = found (answers_rise k l asc) in at_gap k l n le parted.0 parted.1

  -- that the entries ascend, by each and the next
  adjacent : (l : List A) → Ascends nat_cmp (map entry l) → (k : ℕ) (d : A) → suc k < length l → nat_cmp (entry (get_or l k d)).0 (entry (get_or l (suc k) d)).0 ≡ Less
  adjacent [] asc k d lt = absurd (omega arith)
  adjacent (e ∷ []) asc k d lt = absurd (omega arith)
  adjacent (e ∷ x ∷ xs) asc zero d lt = asc.0
  adjacent (e ∷ x ∷ xs) asc (suc k) d lt = adjacent (x ∷ xs) asc.1 k d (omega arith)

  from_adjacent : (l : List A) → ((k : ℕ) (d : A) → suc k < length l → nat_cmp (entry (get_or l k d)).0 (entry (get_or l (suc k) d)).0 ≡ Less) → Ascends nat_cmp (map entry l)
  from_adjacent [] h = tt
  from_adjacent (e ∷ []) h = (tt, tt)
  from_adjacent (e ∷ x ∷ xs) h = (h 0 e (omega arith), from_adjacent (x ∷ xs) (λ k d lt. h (suc k) d (omega arith)))

  in_order : (l : List A) → AllAdjacentBelow (λ x y. true ≡ is_lt (nat_cmp (entry x).0 (entry y).0)) l (length l) → (k : ℕ) (d : A) → suc k < length l → nat_cmp (entry (get_or l k d)).0 (entry (get_or l (suc k) d)).0 ≡ Less
  in_order l all k d lt = is_less (nat_cmp (entry (get_or l k d)).0 (entry (get_or l (suc k) d)).0) (subst (λ n. true ≡ is_lt (nat_cmp (entry (get_or l k d)).0 (entry (get_or l n d)).0)) (add-one k) (all k d (omega arith)))

  pub ascends_test : (l : List A) (r : Bool) → IsAllAdjacentAnswer (λ x y b. b ≡ is_lt (nat_cmp (entry x).0 (entry y).0)) l r → (IsTrue r → Ascends nat_cmp (map entry l)) × (Ascends nat_cmp (map entry l) → IsTrue r)
  ascends_test l true answer = ((λ _. from_adjacent l (in_order l answer)), (λ _. refl))
  ascends_test [] false answer = absurd (omega (arith, answer.1))
  ascends_test (e ∷ es) false answer =
      let unordered = subst (λ n. false ≡ is_lt (nat_cmp (entry (get_or (e ∷ es) answer.0 e)).0 (entry (get_or (e ∷ es) n e)).0)) (add-one answer.0) (answer.2 e) in
      ((λ h. absurd (cc)), (λ asc. absurd (isnt_less (nat_cmp (entry (get_or (e ∷ es) answer.0 e)).0 (entry (get_or (e ∷ es) (suc answer.0) e)).0) unordered (adjacent (e ∷ es) asc answer.0 e (omega (arith, answer.1))))))

  -- what is said of each entry
  pub all-entries : (n : ℕ) (l : List A) → All (λ x. (entry x).0 < n) l → All (λ e. e.0 < n) (map entry l)
  all-entries n (e ∷ es) all zero d lt = all 0 e (omega arith)
  all-entries n (e ∷ es) all (suc k) d lt = all-entries n es (λ i x within. all (suc i) x (omega arith)) k d (omega arith)
  all-entries n [] all k d lt = absurd (omega arith)

  pub entries-all : (n : ℕ) (l : List A) → All (λ e. e.0 < n) (map entry l) → All (λ x. (entry x).0 < n) l
  entries-all n (e ∷ es) all zero d lt = all 0 (entry e) (omega arith)
  entries-all n (e ∷ es) all (suc k) d lt = entries-all n es (λ i x within. all (suc i) x (omega arith)) k d (omega arith)
  entries-all n [] all k d lt = absurd (omega arith)
