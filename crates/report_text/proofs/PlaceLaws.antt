-- The place of a key is how many keys stand before it.
use Rattle.std.proofs.Common.{◌≡◌, ◌≤◌, ◌<◌, ◌+◌, ℕ, zero, suc, cond, List, [], ◌∷◌, length, get_or, refl, sym, ap, subst, ◌∙◌, arith, Result, Ok, Err}
use Rattle.std.specs.List.{AllWithin, HoldsAt}
use Rattle.std.specs.Ordering.{is_lt, ordering_reverse}
use Rattle.std.specs.declared.cmp.Ordering.{Ordering}
use Rattle.std.specs.declared.cmp.Ordering.TheVariants.{Less, Equal, Greater}
use Rattle.keyed.specs.Keyed.{Ascends, IsBelow, IsKeyOrder}
use Rattle.keyed.specs.KeyedLaws.{below_before}
use Rattle.keyed.specs.Places.{IsPlace}
use Rattle.report_text.specs.RowText.{lower_than}

abbrev place_in : Result ℕ ℕ → ℕ
place_in (Ok n) = n
place_in (Err n) = n

module _ {K : Type 0} (cmp : K → K → Ordering) (is_order : IsKeyOrder cmp) where
  pub above : (x y : K) → cmp x y ≡ Less → cmp y x ≡ Greater
  above x y h = is_order.total.antisymm y x ∙ ap ordering_reverse h

module _ {K V : Type 0} (cmp : K → K → Ordering) (is_order : IsKeyOrder cmp) where
  below_each : (k : K) (l : List (K × V)) (n : ℕ) (d : K × V) → IsBelow cmp k l → Ascends cmp l → n < length l → cmp k (get_or l n d).0 ≡ Less
  below_each k [] n d b asc lt = absurd (omega (arith, lt))
  below_each k (e ∷ es) zero d b asc lt = b
  below_each k (e ∷ es) (suc n) d b asc lt = is_order.total.trans k e.0 (get_or es n d).0 b (below_each e.0 es n d asc.0 asc.1 (omega (arith, lt)))

  counted_in : (k : K) (e : K × V) (es : List (K × V)) (o : Ordering) → cmp e.0 k ≡ o → lower_than cmp k (e ∷ es) ≡ cond (is_lt o) 1 0 + lower_than cmp k es
  counted_in k e es o is = ap (λ (x : Ordering). cond (is_lt x) 1 0 + lower_than cmp k es) is

  none_above : (k : K) (es : List (K × V)) → IsBelow cmp k es → Ascends cmp es → lower_than cmp k es ≡ 0
  none_above k [] below asc = refl
  none_above k (x ∷ xs) below asc =
      let rest = none_above k xs (below_before cmp is_order k x.0 xs below asc.0) asc.1 in
      let here = counted_in k x xs Greater (above cmp is_order k x.0 below) in
      omega (arith, here, rest)

  found_place : (k : K) (l : List (K × V)) (n : ℕ) → Ascends cmp l → n < length l → HoldsAt (λ e. cmp e.0 k ≡ Equal) l n → n ≡ lower_than cmp k l
  found_place k [] n asc within is = absurd (omega (arith, within))
  found_place k (e ∷ es) zero asc within is =
      let here = counted_in k e es Equal (is e) in
      let same : e.0 ≡ k = is_order.exact e.0 k (is e) in
      let rest = none_above k es (subst (λ (x : K). IsBelow cmp x es) same asc.0) asc.1 in
      omega (arith, here, rest)
  found_place k (e ∷ es) (suc n) asc within is =
      let there : n < length es = omega (arith, within) in
      let same : (get_or es n e).0 ≡ k = is_order.exact (get_or es n e).0 k (is e) in
      let first : cmp e.0 k ≡ Less = subst (λ (x : K). cmp e.0 x ≡ Less) same (below_each e.0 es n e asc.0 asc.1 there) in
      let here = counted_in k e es Less first in
      let rest = found_place k es n asc.1 there is in
      omega (arith, here, rest)

  all_greater : (k : K) (l : List (K × V)) → AllWithin (λ e. cmp e.0 k ≡ Greater) l 0 (length l) → lower_than cmp k l ≡ 0
  all_greater k [] all = refl
  all_greater k (e ∷ es) all =
      let here = counted_in k e es Greater (all 0 e (omega arith) (omega arith)) in
      let rest = all_greater k es (λ i d low lt. all (suc i) d (omega arith) (omega (arith, lt))) in
      omega (arith, here, rest)

  gap_place : (k : K) (l : List (K × V)) (n : ℕ) → n ≤ length l → AllWithin (λ e. cmp e.0 k ≡ Less) l 0 n → AllWithin (λ e. cmp e.0 k ≡ Greater) l n (length l) → n ≡ lower_than cmp k l
  gap_place k [] n within less greater = omega (arith, within)
  gap_place k (e ∷ es) zero within less greater = sym (all_greater k (e ∷ es) greater)
  gap_place k (e ∷ es) (suc n) within less greater =
      let here = counted_in k e es Less (less 0 e (omega arith) (omega arith)) in
      let rest = gap_place k es n (omega (arith, within)) (λ i d low lt. less (suc i) d (omega arith) (omega (arith, lt))) (λ i d low lt. greater (suc i) d (omega (arith, low)) (omega (arith, lt))) in
      omega (arith, here, rest)

  -- what a search finds, whether the key is there or not
  pub place_is : (k : K) (l : List (K × V)) (r : Result ℕ ℕ) (n : ℕ) → Ascends cmp l → IsPlace cmp k l r → n ≡ place_in r → n ≡ lower_than cmp k l
  place_is k l (Ok m) n asc is e = e ∙ found_place k l m asc is.0 is.1
  place_is k l (Err m) n asc is e = e ∙ gap_place k l m is.0 is.1 is.2

  pub place_found : (k : K) (l : List (K × V)) (r : Result ℕ ℕ) (n : ℕ) → Ascends cmp l → IsPlace cmp k l r → r ≡ Ok n → n ≡ lower_than cmp k l
  place_found k l r n asc is e = place_is k l r n asc is (sym (ap place_in e))

  pub place_gap : (k : K) (l : List (K × V)) (r : Result ℕ ℕ) (n : ℕ) → Ascends cmp l → IsPlace cmp k l r → r ≡ Err n → n ≡ lower_than cmp k l
  place_gap k l r n asc is e = place_is k l r n asc is (sym (ap place_in e))
