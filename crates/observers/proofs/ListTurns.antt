-- Lists of which one member changes, and several in turn.
use Rattle.std.proofs.Common.{◌≡◌, ℕ, zero, suc, ◌<◌, List, [], ◌∷◌, map, length, slice_index_or, slice_set, slice_get, IsSomeAnd, IfSome, refl, ap, sym, arith}
use Rattle.std.specs.List.{AllZip, All}
use Rattle.std.proofs.lemmas.List.Elements.{All-cons, All-head, All-tail}
use Rattle.observers.specs.Turns.{ChangesAt, ChangesUpTo}

-- what changes the n-th item changes the n-th meaning
pub changed : {A B : Type 0} (f : A → B) (R : B → B → Type 0) (xs : List A) (n : ℕ) (x y : A) → n < length xs → x ≡ slice_index_or xs n x → R (f x) (f y) → ChangesAt R n (map f xs) (map f (slice_set xs n y))
changed f R [] n x y h e r = omega (arith, h)
changed f R (w ∷ xs) zero x y h e r = (rw (sym e) r, refl)
changed f R (w ∷ xs) (suc n) x y h e r = (refl, changed f R xs n x y (omega (arith, h)) e r)

-- what holds of the n-th meaning holds of the n-th item
pub at_item : {A B : Type 0} (f : A → B) (P : B → Type 0) (xs : List A) (n : ℕ) (x : A) → x ≡ slice_index_or xs n x → IsSomeAnd (slice_get (map f xs) n) P → P (f x)
at_item f P [] n x e h = absurd h
at_item f P (w ∷ xs) zero x e h = rw e h
at_item f P (w ∷ xs) (suc n) x e h = at_item f P xs n x e h

-- a first member that changed
first_changed : {A : Type 0} (R : A → A → Type 0) (xs zs : List A) → ChangesAt R 0 xs zs → ChangesUpTo R 1 xs zs
first_changed R [] zs at = absurd at
first_changed R (x ∷ xs) [] at = absurd at
first_changed R (x ∷ xs) (z ∷ zs) at = at

-- so far n members changed, and now the next one
pub one_more : {A : Type 0} (R : A → A → Type 0) (n : ℕ) (xs ys zs : List A) → ChangesUpTo R n xs ys → ChangesAt R n ys zs → ChangesUpTo R (suc n) xs zs
one_more R zero xs ys zs up at = first_changed R xs zs (rw up at)
one_more R (suc n) [] [] zs up at = absurd at
one_more R (suc n) [] (y ∷ ys) zs up at = absurd (omega (arith, ap length up))
one_more R (suc n) (x ∷ xs) [] zs up at = absurd up
one_more R (suc n) (x ∷ xs) (y ∷ ys) [] up at = absurd at
one_more R (suc n) (x ∷ xs) (y ∷ ys) (z ∷ zs) up at = (rw (← at.0) up.0, one_more R n xs ys zs up.1 at.1)

-- all members changed
pub all_changed : {A : Type 0} (R : A → A → Type 0) (n : ℕ) (xs ys : List A) → n ≡ length xs → ChangesUpTo R n xs ys → AllZip R xs ys
all_changed R n [] [] e up = tt
all_changed R zero [] (y ∷ ys) e up = absurd (omega (arith, ap length up))
all_changed R (suc n) [] (y ∷ ys) e up = absurd (omega (arith, ap length up))
all_changed R zero (x ∷ xs) ys e up = absurd (omega (arith, e))
all_changed R (suc n) (x ∷ xs) [] e up = absurd up
all_changed R (suc n) (x ∷ xs) (y ∷ ys) e up = (up.0, all_changed R n xs ys (omega (arith, e)) up.1)

-- a place that is there
pub is_short : {A B : Type 0} (f : A → B) (P : B → Type 0) (xs : List A) (n : ℕ) → IsSomeAnd (slice_get (map f xs) n) P → n < length xs
is_short f P [] n h = absurd h
is_short f P (x ∷ xs) zero h = omega arith
is_short f P (x ∷ xs) (suc n) h = omega (arith, is_short f P xs n h)

-- what holds of the n-th members of two lists
pub pair_at : {A B : Type 0} (P : A → B → Type 0) (xs : List A) (ys : List B) (n : ℕ) (x : A) → AllZip P xs ys → n < length xs → x ≡ slice_index_or xs n x → IsSomeAnd (slice_get ys n) (P x)
pair_at P [] ys n x all h e = absurd (omega (arith, h))
pair_at P (w ∷ xs) [] n x all h e = absurd all
pair_at P (w ∷ xs) (y ∷ ys) zero x all h e = rw e all.0
pair_at P (w ∷ xs) (y ∷ ys) (suc n) x all h e = pair_at P xs ys n x all.1 (omega (arith, h)) e

-- both n-th members change
pub both_change : {A B : Type 0} (P : A → B → Type 0) (R : B → B → Type 0) (xs : List A) (ys zs : List B) (n : ℕ) (x : A) → ((w v : B) → R w v → P x v) → AllZip P xs ys → ChangesAt R n ys zs → AllZip P (slice_set xs n x) zs
both_change P R [] [] zs n x f all at = absurd at
both_change P R [] (y ∷ ys) zs n x f all at = absurd all
both_change P R (w ∷ xs) [] zs n x f all at = absurd all
both_change P R (w ∷ xs) (y ∷ ys) [] n x f all at = absurd at
both_change P R (w ∷ xs) (y ∷ ys) (z ∷ zs) zero x f all at = (f y z at.0, rw (← at.1) all.1)
both_change P R (w ∷ xs) (y ∷ ys) (z ∷ zs) (suc n) x f all at = (rw (← at.0) all.0, both_change P R xs ys zs n x f all.1 at.1)

-- the second n-th member changes
pub second_changes : {A B : Type 0} (P : A → B → Type 0) (R : B → B → Type 0) (xs : List A) (ys zs : List B) (n : ℕ) → ((x : A) (w v : B) → P x w → R w v → P x v) → AllZip P xs ys → ChangesAt R n ys zs → AllZip P xs zs
second_changes P R [] [] zs n f all at = absurd at
second_changes P R [] (y ∷ ys) zs n f all at = absurd all
second_changes P R (w ∷ xs) [] zs n f all at = absurd all
second_changes P R (w ∷ xs) (y ∷ ys) [] n f all at = absurd at
second_changes P R (w ∷ xs) (y ∷ ys) (z ∷ zs) zero f all at = (f w y z all.0 at.0, rw (← at.1) all.1)
second_changes P R (w ∷ xs) (y ∷ ys) (z ∷ zs) (suc n) f all at = (rw (← at.0) all.0, second_changes P R xs ys zs n f all.1 at.1)

-- a change in other words
pub changes_so : {A : Type 0} (R S : A → A → Type 0) (n : ℕ) (xs ys : List A) → ((x y : A) → R x y → S x y) → ChangesAt R n xs ys → ChangesAt S n xs ys
changes_so R S n [] ys f at = absurd at
changes_so R S n (x ∷ xs) [] f at = absurd at
changes_so R S zero (x ∷ xs) (y ∷ ys) f at = (f x y at.0, at.1)
changes_so R S (suc n) (x ∷ xs) (y ∷ ys) f at = (at.0, changes_so R S n xs ys f at.1)

-- a list in which nothing changes
pub unchanged : {A : Type 0} (R : A → A → Type 0) (n : ℕ) (xs : List A) → ((x : A) → R x x) → n < length xs → ChangesAt R n xs xs
unchanged R n [] f h = absurd (omega (arith, h))
unchanged R zero (x ∷ xs) f h = (f x, refl)
unchanged R (suc n) (x ∷ xs) f h = (refl, unchanged R n xs f (omega (arith, h)))

-- another n-th member
pub set_changes : {A : Type 0} (R : A → A → Type 0) (n : ℕ) (xs : List A) (y : A) → ((x : A) → R x y) → n < length xs → ChangesAt R n xs (slice_set xs n y)
set_changes R n [] y f h = absurd (omega (arith, h))
set_changes R zero (x ∷ xs) y f h = (f x, refl)
set_changes R (suc n) (x ∷ xs) y f h = (refl, set_changes R n xs y f (omega (arith, h)))

-- what holds of an n-th member that is there
pub follows_at : {A : Type 0} (P : A → Type 0) (xs : List A) (n : ℕ) (x : A) → n < length xs → x ≡ slice_index_or xs n x → IfSome (slice_get xs n) P → P x
follows_at P [] n x h e p = absurd (omega (arith, h))
follows_at P (w ∷ xs) zero x h e p = rw e p
follows_at P (w ∷ xs) (suc n) x h e p = follows_at P xs n x (omega (arith, h)) e p

-- lists that hold pairwise are as long
pub pairs_even : {A B : Type 0} (P : A → B → Type 0) (xs : List A) (ys : List B) → AllZip P xs ys → length xs ≡ length ys
pairs_even P [] [] all = refl
pairs_even P [] (y ∷ ys) all = absurd all
pairs_even P (x ∷ xs) [] all = absurd all
pairs_even P (x ∷ xs) (y ∷ ys) all = ap suc (pairs_even P xs ys all.1)

-- a list that changes at one place stays as long
pub changes_even : {A : Type 0} (R : A → A → Type 0) (n : ℕ) (xs ys : List A) → ChangesAt R n xs ys → length xs ≡ length ys
changes_even R n [] ys at = absurd at
changes_even R n (x ∷ xs) [] at = absurd at
changes_even R zero (x ∷ xs) (y ∷ ys) at = ap suc (ap length at.1)
changes_even R (suc n) (x ∷ xs) (y ∷ ys) at = ap suc (changes_even R n xs ys at.1)

-- what holds of all members and isn't lost by the change holds of all after it
pub all_after : {A : Type 0} (P : A → Type 0) (R : A → A → Type 0) (n : ℕ) (xs ys : List A) → ((x y : A) → P x → R x y → P y) → ChangesAt R n xs ys → All P xs → All P ys
all_after P R n [] ys f at all = absurd at
all_after P R n (x ∷ xs) [] f at all = absurd at
all_after P R zero (x ∷ xs) (y ∷ ys) f at all = All-cons P y ys (f x y (All-head P x xs all) at.0) (rw (← at.1) (All-tail P x xs all))
all_after P R (suc n) (x ∷ xs) (y ∷ ys) f at all = All-cons P y ys (rw (← at.0) (All-head P x xs all)) (all_after P R n xs ys f at.1 (All-tail P x xs all))

-- what holds past the place still holds there
pub get_past : {A : Type 0} (P : A → Type 0) (xs : List A) (n k : ℕ) (y : A) → n < k → IfSome (slice_get xs k) P → IfSome (slice_get (slice_set xs n y) k) P
get_past P [] n k y past h = h
get_past P (x ∷ xs) n zero y past h = absurd (omega (arith, past))
get_past P (x ∷ xs) zero (suc k) y past h = h
get_past P (x ∷ xs) (suc n) (suc k) y past h = get_past P xs n k y (omega (arith, past)) h
