-- What a list has that a test finds, and its first items.
use Rattle.std.proofs.Common.{◌≡◌, ◌≤◌, ℕ, zero, suc, Bool, true, false, List, [], ◌∷◌, Some, length, refl, sym, ap, ◌∙◌, subst, inl, inr, arith, cond, filter, ◌++◌, slice_get}
use Rattle.std.specs.Prelude.{take, All, get_or}
use Rattle.std.proofs.lemmas.List.Elements.{All-contains_itself}
use Rattle.std.specs.List.{AllByRecursion, Contains, list_any, find}
use Rattle.std.specs.List.Sorted.{IsStrictlySortedBy}
use Rattle.std.specs.Option.{option_map, is_some}
use Rattle.std.specs.declared.cmp.Ordering.{Ordering}
use Rattle.std.specs.declared.cmp.Ordering.TheVariants.{Less}
use Rattle.std.proofs.lemmas.Bool.{or_parts, or_from, or_cases, cases_Bool, true≢false}
use Rattle.keyed.specs.Cases.{some_is, none_some}
use Rattle.keyed.specs.Members.{contains_first, contains_later, contains_cases, contains_none}

-- no item passes a test
pub any_false : {A : Type 0} (p : A → Bool) (xs : List A) → list_any p xs ≡ false → (x : A) → Contains xs x → p x ≡ false
any_false p [] h x has = absurd (contains_none x has)
any_false p (y ∷ ys) h x has = elim (contains_cases y ys x has) [
  | inl is ↦ ap p is ∙ (or_parts (p y) (list_any p ys) h).0
  | inr rest ↦ any_false p ys (or_parts (p y) (list_any p ys) h).1 x rest
]

pub false_any : {A : Type 0} (p : A → Bool) (xs : List A) → ((x : A) → Contains xs x → p x ≡ false) → list_any p xs ≡ false
false_any p [] h = refl
false_any p (y ∷ ys) h = or_from (p y) (list_any p ys) (h y (contains_first y ys)) (false_any p ys (λ x has. h x (contains_later y ys x has)))

pub any_true : {A : Type 0} (p : A → Bool) (xs : List A) → list_any p xs ≡ true → (x : A) × Contains xs x × (p x ≡ true)
any_true p [] h = absurd (cc)
any_true p (y ∷ ys) h = elim (or_cases (p y) (list_any p ys) h) [
  | inl here ↦ (y, contains_first y ys, here)
  | inr later ↦ let found = any_true p ys later in (found.0, contains_later y ys found.0 found.1, found.2)
]

pub true_any : {A : Type 0} (p : A → Bool) (xs : List A) (x : A) → Contains xs x → p x ≡ true → list_any p xs ≡ true
true_any p xs x has passes = elim (cases_Bool (list_any p xs)) [
  | inl is ↦ is
  | inr is ↦ absurd (true≢false (sym passes ∙ any_false p xs is x has))
]

-- what holds of each item, place by place
pub all_of : {A : Type 0} (P : A → Type 0) (xs : List A) → ((x : A) → Contains xs x → P x) → All P xs
all_of P xs each k d lt = each (get_or xs k d) (All-contains_itself xs k d lt)

pub find_none : {A B : Type 0} (f : A → B) (p : A → Bool) (xs : List A) → is_some (option_map f (find p xs)) ≡ list_any p xs
find_none f p [] = refl
find_none f p (x ∷ xs) = elim (cases_Bool (p x)) [
  | inl is ↦ rw is refl
  | inr is ↦ rw is (find_none f p xs)
]

-- what a search finds, and what the first items have, is of the list
pub contains_take : {A : Type 0} (n : ℕ) (xs : List A) (y : A) → Contains (take n xs) y → Contains xs y
contains_take zero xs y has = absurd (contains_none y has)
contains_take (suc n) [] y has = absurd (contains_none y has)
contains_take (suc n) (x ∷ xs) y has = elim (contains_cases x (take n xs) y has) [
  | inl is ↦ let P : _ → Type 0 = λ z. Contains (x ∷ xs) z in subst P (sym is) (contains_first x xs)
  | inr rest ↦ contains_later x xs y (contains_take n xs y rest)
]

pub find_contains : {A : Type 0} (p : A → Bool) (xs : List A) (x : A) → find p xs ≡ Some x → Contains xs x
find_contains p [] x is = absurd (none_some is)
find_contains {A = A} p (y ∷ ys) x is = elim (cases_Bool (p y)) [
  | inl passes ↦ let here : Some y ≡ Some x = rw passes at is in let P : A → Type 0 = λ z. Contains (y ∷ ys) z in subst P (some_is here) (contains_first y ys)
  | inr fails ↦ let later : find p ys ≡ Some x = rw fails at is in contains_later y ys x (find_contains p ys x later)
]

pub length-take : {A : Type 0} (n : ℕ) (xs : List A) → length (take n xs) ≤ n
length-take zero xs = omega arith
length-take (suc n) [] = omega arith
length-take (suc n) (x ∷ xs) = omega (arith, length-take n xs)

all_take : {A : Type 0} (P : A → Type 0) (n : ℕ) (xs : List A) → AllByRecursion P xs → AllByRecursion P (take n xs)
all_take P zero xs all = tt
all_take P (suc n) [] all = tt
all_take P (suc n) (x ∷ xs) all = (all.0, all_take P n xs all.1)

pub sorted_take : {K : Type 0} (cmp : K → K → Ordering) (n : ℕ) (xs : List K) → IsStrictlySortedBy cmp xs → IsStrictlySortedBy cmp (take n xs)
unfolding IsStrictlySortedBy
sorted_take cmp zero xs asc = tt
sorted_take cmp (suc n) [] asc = tt
sorted_take cmp (suc n) (x ∷ xs) asc = (all_take (λ y. cmp x y ≡ Less) n xs asc.0, sorted_take cmp n xs asc.1)

-- items that pass a test ascend where all do
module _ {K : Type 0} (cmp : K → K → Ordering) where
  all_filter : (p : K → Bool) (Is : K → Type 0) (xs : List K) → AllByRecursion Is xs → AllByRecursion Is (filter p xs)
  all_filter p Is [] all = tt
  all_filter p Is (x ∷ xs) all = all_by (p x) x (filter p xs) all.0 (all_filter p Is xs all.1)
    where
      all_by : (b : Bool) (y : K) (ys : List K) → Is y → AllByRecursion Is ys → AllByRecursion Is (cond b (y ∷ ys) ys)
      all_by true y ys is rest = (is, rest)
      all_by false y ys is rest = rest

  sorted_by : (b : Bool) (x : K) (xs : List K) → AllByRecursion (λ y. cmp x y ≡ Less) xs → IsStrictlySortedBy cmp xs → IsStrictlySortedBy cmp (cond b (x ∷ xs) xs)
  unfolding IsStrictlySortedBy
  sorted_by true x xs above asc = (above, asc)
  sorted_by false x xs above asc = asc

  pub sorted_filter : (p : K → Bool) (xs : List K) → IsStrictlySortedBy cmp xs → IsStrictlySortedBy cmp (filter p xs)
  unfolding IsStrictlySortedBy
  sorted_filter p [] asc = tt
  sorted_filter p (x ∷ xs) asc = sorted_by (p x) x (filter p xs) (all_filter p (λ y. cmp x y ≡ Less) xs asc.0) (sorted_filter p xs asc.1)

pub take_none : {A : Type 0} (n : ℕ) → take {A = A} n [] ≡ []
take_none zero = refl
take_none (suc n) = refl

pub take_swap : {A : Type 0} (m n : ℕ) (xs : List A) → take m (take n xs) ≡ take n (take m xs)
take_swap zero n xs = sym (take_none n)
take_swap (suc m) zero xs = refl
take_swap (suc m) (suc n) [] = refl
take_swap {A} (suc m) (suc n) (x ∷ xs) = ap (λ (l : List A). x ∷ l) (take_swap m n xs)

-- the item behind a list that begins the whole
pub slice_get_seam : {A : Type 0} (xs : List A) (y : A) (ys : List A) → slice_get (xs ++ y ∷ ys) (length xs) ≡ Some y
slice_get_seam [] y ys = refl
slice_get_seam (x ∷ xs) y ys = slice_get_seam xs y ys
