-- Items whose keys pass a test and stand in one run of a list: a walk that begins at the run's bound and ends where the test fails meets all of them.
use Rattle.std.proofs.Common.{◌≡◌, ℕ, ◌<◌, ◌≤◌, ◌*◌, ◌/◌, ◌==◌, ◌&&◌, ◌||◌, not, Bool, true, false, List, [], ◌∷◌, refl, sym, ap, ◌∙◌, subst, inl, inr, ◌⊎◌, arith}
use Rattle.std.specs.List.{All, AllByRecursion, filter, list_any, take_while}
use Rattle.std.specs.List.Sorted.{IsStrictlySortedBy}
use Rattle.std.specs.Ordering.{is_ge, nat_cmp}
use Rattle.std.specs.declared.cmp.Ordering.TheVariants.{Equal, Greater, Less}
use Rattle.std.specs.Cmp.{nat_cmp_is}
use Rattle.std.specs.Prelude.{nat_lt}
use Rattle.std.proofs.lemmas.Bool.{both_ways, cases_lt, lt-ltb, le-ltb}
use Rattle.std.proofs.Math.Nat.{div-mul-le_self}
use Rattle.std.proofs.lemmas.Bool.Decides.{Decides-eqb}
use Rattle.std.proofs.lemmas.Cmp.{ranked}
use Rattle.std.proofs.lemmas.Nat.{le-div}
use Rattle.std.proofs.lemmas.List.Elements.{All-head, All-tail}
use Rattle.std.proofs.lemmas.List.Sums.{take_while-cons}
use Rattle.keyed.specs.Cases.{by_bool}
use Rattle.keyed.specs.Keyed.{Ascends, IsBelow}

-- the items whose key isn't below the bound
abbrev pub from_bound : {A : Type 0} → (A → ℕ) → ℕ → List A → List A
from_bound key bound xs = filter (λ x. is_ge (nat_cmp (key x) bound)) xs

-- the key is below that of the first item
abbrev pub IsUnder : {A : Type 0} → (A → ℕ) → ℕ → List A → Type 0
IsUnder key k [] = Unit {0}
IsUnder key k (x ∷ xs) = k < key x

-- each key is below the next one
abbrev pub Rise : {A : Type 0} → (A → ℕ) → List A → Type 0
Rise key [] = Unit {0}
Rise key (x ∷ xs) = IsUnder key (key x) xs × Rise key xs

less : (x y : ℕ) → nat_cmp x y ≡ Less → x < y
less x y is = rw is at (ranked x y (nat_cmp x y) refl)

under_first : (k : ℕ) (xs : List ℕ) → AllByRecursion (λ y. nat_cmp k y ≡ Less) xs → IsUnder (λ (x : ℕ). x) k xs
under_first k [] all = tt
under_first k (x ∷ xs) all = less k x all.0

-- keys in order, and entries in order
pub rise_keys : (xs : List ℕ) → IsStrictlySortedBy nat_cmp xs → Rise (λ (x : ℕ). x) xs
unfolding IsStrictlySortedBy
rise_keys [] asc = tt
rise_keys (x ∷ xs) asc = (under_first x xs asc.0, rise_keys xs asc.1)

under_entry : {V : Type 0} (k : ℕ) (es : List (ℕ × V)) → IsBelow nat_cmp k es → IsUnder (λ (e : ℕ × V). e.0) k es
under_entry k [] below = tt
under_entry k (e ∷ es) below = less k e.0 below

pub rise_entries : {V : Type 0} (es : List (ℕ × V)) → Ascends nat_cmp es → Rise (λ (e : ℕ × V). e.0) es
rise_entries [] asc = tt
rise_entries (e ∷ es) asc = (under_entry e.0 es asc.0, rise_entries es asc.1)

-- the bound isn't above the key of the first item
abbrev pub IsLow : {A : Type 0} → (A → ℕ) → ℕ → List A → Type 0
IsLow key bound [] = Unit {0}
IsLow key bound (x ∷ xs) = bound ≤ key x

pub dropped : (k bound : ℕ) → k < bound → is_ge (nat_cmp k bound) ≡ false
dropped k bound lt = ap is_ge (sym (nat_cmp_is k bound Less lt))

kept : (k bound : ℕ) → bound ≤ k → is_ge (nat_cmp k bound) ≡ true
kept k bound le = elim (eq_or_above bound k le) [
  | inl is ↦ ap is_ge (sym (nat_cmp_is k bound Equal (sym is)))
  | inr lt ↦ ap is_ge (sym (nat_cmp_is k bound Greater lt))
]
  where
    eq_or_above : (a b : ℕ) → a ≤ b → (a ≡ b) ⊎ (a < b)
    eq_or_above a b le = grind (arith, le)

pub low_next : {A : Type 0} (key : A → ℕ) (bound k : ℕ) (xs : List A) → bound ≤ k → IsUnder key k xs → IsLow key bound xs
low_next key bound k [] le under = tt
low_next key bound k (x ∷ xs) le under = omega (arith, le, under)

-- where the first key isn't below the bound, none is
pub all_kept : {A : Type 0} (key : A → ℕ) (bound : ℕ) (xs : List A) → IsLow key bound xs → Rise key xs → from_bound key bound xs ≡ xs
all_kept key bound [] low rise = refl
all_kept key bound (x ∷ xs) low rise = rw (kept (key x) bound low) (ap (λ ys. x ∷ ys) (all_kept key bound xs (low_next key bound (key x) xs low rise.0) rise.1))

-- the keys that are such and pass the test stand side by side from the bound on
module _ {A : Type 0} (key : A → ℕ) (P : ℕ → Bool) (t : A → Bool) (bound : ℕ) (Is : ℕ → Type 0) (beside : (j k : ℕ) → Is j → Is k → bound ≤ j → j < k → P k ≡ true → P j ≡ true) where
  rest_fails : (j : ℕ) (xs : List A) → Is j → bound ≤ j → P j ≡ false → IsUnder key j xs → Rise key xs → All (λ x. Is (key x)) xs → list_any (λ x. P (key x) && t x) xs ≡ false
  rest_fails j [] is le fails under rise all = refl
  rest_fails j (x ∷ xs) is le fails under rise all =
      let here : Is (key x) = All-head (λ (y : A). Is (key y)) x xs all in
      by_bool (P (key x))
      (λ h. absurd (both_ways (P j) fails (beside j (key x) is here le under h)))
      (λ h. rw h (rest_fails (key x) xs here (omega (arith, le, under)) h rise.0 rise.1 (All-tail (λ (y : A). Is (key y)) x xs all)))

  run : (xs : List A) → IsLow key bound xs → Rise key xs → All (λ x. Is (key x)) xs → list_any t (take_while (λ x. P (key x)) xs) ≡ list_any (λ x. P (key x) && t x) xs
  run [] low rise all = refl
  run (x ∷ xs) low rise all =
      let here : Is (key x) = All-head (λ (y : A). Is (key y)) x xs all in
      let rest : All (λ y. Is (key y)) xs = All-tail (λ (y : A). Is (key y)) x xs all in
      ap (list_any t) (take_while-cons (λ (y : A). P (key y)) x xs)
      ∙ by_bool (P (key x))
      (λ h. rw h (ap (λ (b : Bool). t x || b) (run xs (low_next key bound (key x) xs low rise.0) rise.1 rest)))
      (λ h. rw h (sym (rest_fails (key x) xs here low h rise.0 rise.1 rest)))

  none_below : (xs : List A) → IsLow key bound xs → Rise key xs → list_any (λ x. not (nat_lt (key x) bound) && (P (key x) && t x)) xs ≡ list_any (λ x. P (key x) && t x) xs
  none_below [] low rise = refl
  none_below (x ∷ xs) low rise = rw (le-ltb (key x) bound low) (ap (λ (b : Bool). (P (key x) && t x) || b) (none_below xs (low_next key bound (key x) xs low rise.0) rise.1))

  pub range_any : (xs : List A) → Rise key xs → All (λ x. Is (key x)) xs → list_any t (take_while (λ x. P (key x)) (from_bound key bound xs)) ≡ list_any (λ x. not (nat_lt (key x) bound) && (P (key x) && t x)) xs
  range_any [] rise all = refl
  range_any (x ∷ xs) rise all = elim (cases_lt (key x) bound) [
    | inl lt ↦ rw (dropped (key x) bound lt, lt-ltb (key x) bound lt) (range_any xs rise.1 (All-tail (λ (y : A). Is (key y)) x xs all))
    | inr le ↦ ap (λ (l : List A). list_any t (take_while (λ y. P (key y)) l)) (all_kept key bound (x ∷ xs) le rise) ∙ run (x ∷ xs) le rise all ∙ sym (none_below (x ∷ xs) le rise)
  ]

  -- where no key below the bound passes
  pub range_all : ((k : ℕ) → Is k → k < bound → P k ≡ false) → (xs : List A) → Rise key xs → All (λ x. Is (key x)) xs → list_any t (take_while (λ x. P (key x)) (from_bound key bound xs)) ≡ list_any (λ x. P (key x) && t x) xs
  range_all below [] rise all = refl
  range_all below (x ∷ xs) rise all = elim (cases_lt (key x) bound) [
    | inl lt ↦ rw (dropped (key x) bound lt, below (key x) (All-head (λ (y : A). Is (key y)) x xs all) lt) (range_all below xs rise.1 (All-tail (λ (y : A). Is (key y)) x xs all))
    | inr le ↦ ap (λ (l : List A). list_any t (take_while (λ y. P (key y)) l)) (all_kept key bound (x ∷ xs) le rise) ∙ run (x ∷ xs) le rise all
  ]

pub div_mono : (a b d : ℕ) → 0 < d → a ≤ b → a / d ≤ b / d
div_mono a b d pos le = le-div (a / d) b d pos (omega (arith, div-mul-le_self a d, le))

-- the items whose keys begin with one front: all but the lowest bits
module _ {A : Type 0} (key : A → ℕ) (t : A → Bool) (low front bound : ℕ) (pos : 0 < low) (Is : ℕ → Type 0) (read : ℕ → ℕ) (reads : (n : ℕ) → Is n → n / low ≡ read n) (first : bound ≡ front * low) where
  front_beside : (j k : ℕ) → Is j → Is k → bound ≤ j → j < k → (read k == front) ≡ true → (read j == front) ≡ true
  front_beside j k is_j is_k le lt h =
      let end : read k ≡ front = (Decides-eqb (read k) front).0 h in
      let up : j / low ≤ k / low = div_mono j k low pos (omega (arith, lt)) in
      let down : front ≤ j / low = le-div front j low pos (omega (arith, first, le)) in
      let a = reads j is_j in
      let b = reads k is_k in
      (Decides-eqb (read j) front).1 (omega (arith, end, up, down, a, b))

  front_below : (k : ℕ) → Is k → k < bound → (read k == front) ≡ false
  front_below k is lt = by_bool (read k == front)
      (λ h.
      let end : k / low ≡ front = reads k is ∙ (Decides-eqb (read k) front).0 h in
      let le : front * low ≤ k = subst (λ (n : ℕ). n * low ≤ k) end (div-mul-le_self k low) in
      absurd (omega (arith, le, first, lt)))
      (λ h. h)

  pub front_any : (xs : List A) → Rise key xs → All (λ x. Is (key x)) xs → list_any t (take_while (λ x. read (key x) == front) (from_bound key bound xs)) ≡ list_any (λ x. (read (key x) == front) && t x) xs
  front_any = range_all key (λ (n : ℕ). read n == front) t bound Is front_beside front_below
