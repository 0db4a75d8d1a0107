-- Lists of one caller's submissions and rounds, and beginnings of a list.
use Rattle.std.proofs.Common.{◌≡◌, ◌≢◌, ◌⊎◌, ℕ, zero, suc, ◌+◌, ◌<◌, ◌≤◌, eqb, eq-eqb, ne_eqb, Bool, true, false, List, [], ◌∷◌, ◌++◌, length, refl, sym, ap, ◌∙◌, inl, inr, ⊎_elim, arith, length-append, if◌then◌else◌}
use Rattle.std.proofs.lemmas.List.{append-nil, map_push}
use Rattle.std.proofs.lemmas.List.Elements.{filter-append}
use Rattle.std.specs.List.{range_with_len}
use Rattle.std.proofs.lemmas.List.Concat.{flat_map-append}
use mathlib.Core.Logic.{dite}
use native.Mathlib.Decide.{ℕ_discrete}
use mathlib.Core.Option.{some, some-injective, some-ne-none}
use Rattle.keyed.specs.Prefix.{IsPrefix}
use lib.ListN.{get_elem?}
use Rattle.turn_book.specs.Lists.{own, AreNumbered, rounds_of, strip, AscendWithin}

module _ {A : Type 0} where
  pub at_below : (l : List A) (i : ℕ) (a : A) → get_elem? l i ≡ some a → i < length l
  at_below [] i a e = absurd (some-ne-none a (sym e))
  at_below (x ∷ xs) zero a e = omega arith
  at_below (x ∷ xs) (suc i) a e = let h = at_below xs i a e in omega arith

  -- the last item of a longer list, with its place
  pub at_end : (l : List A) (a b : A) (j : ℕ) → get_elem? (l ++ a ∷ []) j ≡ some b → (get_elem? l j ≡ some b) ⊎ ((j ≡ length l) × (a ≡ b))
  at_end [] a b zero e = inr (refl, some-injective a b e)
  at_end [] a b (suc j) e = absurd (some-ne-none b (sym e))
  at_end (x ∷ xs) a b zero e = inl e
  at_end (x ∷ xs) a b (suc j) e = ⊎_elim (λ t. inl t) (λ (t : (j ≡ length xs) × (a ≡ b)). inr (ap suc t.0, t.1)) (at_end xs a b j e)

  pub append_empty : (xs ys : List A) → xs ++ ys ≡ [] → xs ≡ []
  append_empty [] ys e = refl
  append_empty (x ∷ xs) ys e = absurd (cc e)

  pub some_at : (l : List A) (i : ℕ) → i < length l → (a : A) × (get_elem? l i ≡ some a)
  some_at [] i h = absurd (omega arith)
  some_at (x ∷ xs) zero h = (x, refl)
  some_at (x ∷ xs) (suc i) h = some_at xs i (omega arith)

module _ {S : Type 0} (by : S → ℕ) where
  pub own-append : (i : ℕ) (xs ys : List S) → own by i (xs ++ ys) ≡ own by i xs ++ own by i ys
  own-append i xs ys = filter-append (λ s. eqb (by s) i) xs ys

  pub own_mine : (i : ℕ) (x : S) → by x ≡ i → own by i (x ∷ []) ≡ x ∷ []
  own_mine i x e = ap (λ (b : Bool). if b then x ∷ [] else []) (eq-eqb (by x) i e)

  pub own_other : (i : ℕ) (x : S) → by x ≢ i → own by i (x ∷ []) ≡ []
  own_other i x e = ap (λ (b : Bool). if b then x ∷ [] else []) (ne_eqb (by x) i e)

  pub own_grows : (i : ℕ) (xs : List S) (x : S) → by x ≡ i → own by i (xs ++ x ∷ []) ≡ own by i xs ++ x ∷ []
  own_grows i xs x e = own-append i xs (x ∷ []) ∙ ap (λ w. own by i xs ++ w) (own_mine i x e)

  pub own_stays : (i : ℕ) (xs : List S) (x : S) → by x ≢ i → own by i (xs ++ x ∷ []) ≡ own by i xs
  own_stays i xs x e = own-append i xs (x ∷ []) ∙ (ap (λ w. own by i xs ++ w) (own_other i x e) ∙ append-nil (own by i xs))

  -- a caller has no more than all
  pub own_fewer : (i : ℕ) (xs : List S) → length (own by i xs) ≤ length xs
  own_fewer i [] = omega arith
  own_fewer i (x ∷ xs) = dite (ℕ_discrete (by x) i)
      (λ e. omega (arith, ap (λ (b : Bool). length (if b then x ∷ own by i xs else own by i xs)) (eq-eqb (by x) i e), own_fewer i xs))
      (λ e. omega (arith, ap (λ (b : Bool). length (if b then x ∷ own by i xs else own by i xs)) (ne_eqb (by x) i e), own_fewer i xs))

  -- a beginning has none of a caller of which the whole has none
  pub own_prefix : (i : ℕ) (xs ys : List S) → IsPrefix xs ys → own by i ys ≡ [] → own by i xs ≡ []
  own_prefix i xs ys p e = append_empty (own by i xs) (own by i p.0) (sym (own-append i xs p.0) ∙ (ap (own by i) (sym p.1) ∙ e))

  -- where no other caller has one, all are of caller 0
  pub own_sole : (xs : List S) → ((i : ℕ) → 0 < i → own by i xs ≡ []) → own by 0 xs ≡ xs
  own_sole [] none_else = refl
  own_sole (x ∷ xs) none_else = dite (ℕ_discrete (by x) 0)
      (λ e. ap (λ (b : Bool). if b then x ∷ own by 0 xs else own by 0 xs) (eq-eqb (by x) 0 e)
      ∙ ap (λ w. x ∷ w) (own_sole xs (λ i pos. sym (ap (λ (b : Bool). if b then x ∷ own by i xs else own by i xs) (ne_eqb (by x) i (λ f. omega arith))) ∙ none_else i pos)))
      (λ ne. let t : x ∷ own by (by x) xs ≡ [] = sym (ap (λ (b : Bool). if b then x ∷ own by (by x) xs else own by (by x) xs) (eq-eqb (by x) (by x) refl)) ∙ none_else (by x) (omega arith) in absurd (cc t))

range_more : (a n j : ℕ) → a + n ≡ j → range_with_len a (suc n) ≡ range_with_len a n ++ j ∷ []
range_more a zero j e = let same : a ≡ j = omega arith in ap (λ (k : ℕ). k ∷ []) same
range_more a (suc n) j e = ap (λ (l : List ℕ). a ∷ l) (range_more (a + 1) n j (omega arith))

-- one submission more, with the next number
pub numbered_grow : {S : Type 0} (sequence : S → ℕ) (xs : List S) (x : S) → sequence x ≡ length xs → AreNumbered sequence xs → AreNumbered sequence (xs ++ x ∷ [])
numbered_grow sequence xs x e h =
    map_push sequence xs x ∙ (ap (λ l. l ++ sequence x ∷ []) h ∙ (ap (λ (n : ℕ). range_with_len 0 (length xs) ++ n ∷ []) e
    ∙ (sym (range_more 0 (length xs) (length xs) (omega arith)) ∙ ap (range_with_len 0) (let long : suc (length xs) ≡ length (xs ++ x ∷ []) = omega (arith, length-append xs (x ∷ [])) in long))))

module _ {S R : Type 0} (subs : R → List S) where
  pub strip_grows : (xs : List R) (r : R) → strip subs (xs ++ r ∷ []) ≡ strip subs xs ++ subs r
  strip_grows xs r = flat_map-append subs xs (r ∷ []) ∙ ap (λ w. strip subs xs ++ w) (append-nil (subs r))

places_cons : (i n g : ℕ) (b : Bool) (gs hs : List ℕ) → rounds_of i (n + 1) (gs ++ hs) ≡ rounds_of i (n + 1) gs ++ rounds_of i (n + 1 + length gs) hs → n + 1 + length gs ≡ n + suc (length gs)
    → (if b then n ∷ rounds_of i (n + 1) (gs ++ hs) else rounds_of i (n + 1) (gs ++ hs)) ≡ (if b then n ∷ rounds_of i (n + 1) gs else rounds_of i (n + 1) gs) ++ rounds_of i (n + suc (length gs)) hs
places_cons i n g true gs hs e k = ap (λ w. n ∷ w) (e ∙ ap (λ (z : ℕ). rounds_of i (n + 1) gs ++ rounds_of i z hs) k)
places_cons i n g false gs hs e k = e ∙ ap (λ (z : ℕ). rounds_of i (n + 1) gs ++ rounds_of i z hs) k

pub rounds_of-append : (i n : ℕ) (gs hs : List ℕ) → rounds_of i n (gs ++ hs) ≡ rounds_of i n gs ++ rounds_of i (n + length gs) hs
rounds_of-append i n [] hs = ap (λ (z : ℕ). rounds_of i z hs) (omega arith)
rounds_of-append i n (g ∷ gs) hs = places_cons i n g (eqb g i) gs hs (rounds_of-append i (n + 1) gs hs) (omega arith)

pub rounds_grow : (i : ℕ) (gs : List ℕ) → rounds_of i 0 (gs ++ i ∷ []) ≡ rounds_of i 0 gs ++ length gs ∷ []
rounds_grow i gs = rounds_of-append i 0 gs (i ∷ []) ∙ (ap (λ (b : Bool). rounds_of i 0 gs ++ (if b then (0 + length gs) ∷ [] else [])) (eq-eqb i i refl) ∙ ap (λ (z : ℕ). rounds_of i 0 gs ++ z ∷ []) (omega arith))

pub rounds_stay : (i j : ℕ) (gs : List ℕ) → j ≢ i → rounds_of i 0 (gs ++ j ∷ []) ≡ rounds_of i 0 gs
rounds_stay i j gs e = rounds_of-append i 0 gs (j ∷ []) ∙ (ap (λ (b : Bool). rounds_of i 0 gs ++ (if b then (0 + length gs) ∷ [] else [])) (ne_eqb j i e) ∙ append-nil (rounds_of i 0 gs))

pub rounds_prefix : (i : ℕ) (gs hs : List ℕ) → IsPrefix gs hs → rounds_of i 0 hs ≡ [] → rounds_of i 0 gs ≡ []
rounds_prefix i gs hs p e = append_empty (rounds_of i 0 gs) (rounds_of i (0 + length gs) p.0) (sym (rounds_of-append i 0 gs p.0) ∙ (ap (rounds_of i 0) (sym p.1) ∙ e))

-- where no other caller has one, caller 0 has all
pub rounds_sole : (n : ℕ) (gs : List ℕ) → ((i : ℕ) → 0 < i → rounds_of i n gs ≡ []) → rounds_of 0 n gs ≡ range_with_len n (length gs)
rounds_sole n [] none_else = refl
rounds_sole n (g ∷ gs) none_else = dite (ℕ_discrete g 0)
    (λ e. ap (λ (b : Bool). if b then n ∷ rounds_of 0 (n + 1) gs else rounds_of 0 (n + 1) gs) (eq-eqb g 0 e)
    ∙ ap (λ (l : List ℕ). n ∷ l) (rounds_sole (n + 1) gs (λ i pos. sym (ap (λ (b : Bool). if b then n ∷ rounds_of i (n + 1) gs else rounds_of i (n + 1) gs) (ne_eqb g i (λ f. omega arith))) ∙ none_else i pos)))
    (λ ne. let t : n ∷ rounds_of g (n + 1) gs ≡ [] = sym (ap (λ (b : Bool). if b then n ∷ rounds_of g (n + 1) gs else rounds_of g (n + 1) gs) (eq-eqb g g refl)) ∙ none_else g (omega arith) in absurd (cc t))

ascend_lower : (low n high : ℕ) (xs : List ℕ) → low ≤ n → AscendWithin n high xs → AscendWithin low high xs
ascend_lower low n high [] le h = tt
ascend_lower low n high (x ∷ xs) le h = let b = h.0 in (omega arith, h.1, h.2)

ascend_cons : (i n g high : ℕ) (b : Bool) (gs : List ℕ) → n < high → AscendWithin (n + 1) high (rounds_of i (n + 1) gs)
    → AscendWithin n high (if b then n ∷ rounds_of i (n + 1) gs else rounds_of i (n + 1) gs)
ascend_cons i n g high true gs lt h = (omega arith, lt, h)
ascend_cons i n g high false gs lt h = ascend_lower n (n + 1) high (rounds_of i (n + 1) gs) (omega arith) h

-- the rounds of a caller ascend, among those that there are
pub rounds_ascend : (i n high : ℕ) (gs : List ℕ) → n + length gs ≡ high → AscendWithin n high (rounds_of i n gs)
rounds_ascend i n high [] e = tt
rounds_ascend i n high (g ∷ gs) e = ascend_cons i n g high (eqb g i) gs (omega arith) (rounds_ascend i (n + 1) high gs (omega arith))
