-- What holds of each item of a list, and of two lists whose items agree.
use Rattle.std.proofs.Common.{◌≡◌, zero, suc, List, [], ◌∷◌, All, Option, None, Some, IsSome, Result, Ok, Err, refl, sym, subst, arith}
use Rattle.std.specs.Result.{OnErr}

pub all-head : {A : Type 0} (P : A → Type 0) (x : A) (xs : List A) → All P (x ∷ xs) → P x
all-head P x xs all = all 0 x (omega arith)

pub all-rest : {A : Type 0} (P : A → Type 0) (x : A) (xs : List A) → All P (x ∷ xs) → All P xs
all-rest P x xs all k d lt = all (suc k) d (omega arith)

pub all-nil : {A : Type 0} (P : A → Type 0) → All P []
all-nil P k d lt = absurd (omega arith)

pub all-cons : {A : Type 0} (P : A → Type 0) (x : A) (xs : List A) → P x → All P xs → All P (x ∷ xs)
all-cons P x xs here all zero d lt = here
all-cons P x xs here all (suc k) d lt = all k d (omega arith)

-- the value of an option that has one
pub some-value : {T : Type 0} (o : Option T) → IsSome o → (x : T) × (o ≡ Some x)
some-value (Some x) there = (x, refl)
some-value None there = absurd (cc)

pub some : {T : Type 0} (o : Option T) (x : T) → o ≡ Some x → IsSome o
some {T} o x is = let P : Option T → Type 0 = λ y. IsSome y in let known : P (Some x) = refl in subst P (sym is) known

pub some-none : {T : Type 0} (o : Option T) → IsSome o → o ≡ None → ⊥
some-none (Some v) there none = absurd (cc)
some-none None there none = absurd (cc)

pub some-is : {T : Type 0} {x y : T} → Some x ≡ Some y → x ≡ y
some-is h = cc

pub none-some : {T : Type 0} {x : T} → None ≡ Some x → ⊥
none-some h = cc

pub by_option : {T G : Type 0} (o : Option T) → (o ≡ None → G) → ((x : T) → o ≡ Some x → G) → G
by_option None f g = f refl
by_option (Some x) f g = g x refl

-- what is said of a refusal
pub on_err : {A E P : Type 0} (r : Result A E) → P → OnErr r P
on_err (Ok x) p = tt
on_err (Err e) p = p
