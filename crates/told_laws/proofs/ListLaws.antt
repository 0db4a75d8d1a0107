-- Numbers of updates, fates, and lists.
use Rattle.std.proofs.Common.{◌≡◌, ℕ, zero, suc, ◌+◌, ◌≤◌, ◌==◌, Bool, true, false, List, [], ◌∷◌, ◌++◌, length, take, Contains, refl, ap, sym, ◌∙◌, subst, arith, append_assoc, length-append}
use Rattle.std.proofs.lemmas.List.{get_or_append_left}
use Rattle.std.proofs.lemmas.List.Elements.{filter-append}
use Rattle.std.proofs.Math.Seq.{get_or-append_seam}
use Rattle.std.specs.List.{AllByRecursion}
use Rattle.journal_laws.specs.Worlds.{numbered}
use Rattle.keyed.specs.Prefix.{IsPrefix, prefix_filter, prefix_length}
use Rattle.switch_model.specs.declared.act.Submission.{Submission}
use Rattle.switch_model.specs.declared.act.Update.{Update}
use Rattle.switch_model.specs.Journal.{own}
use Rattle.told_laws.specs.Told.{AreRefused}

pub own-append : (i : ℕ) (xs ys : List Submission) → own i (xs ++ ys) ≡ own i xs ++ own i ys
own-append i xs ys = filter-append (λ (s : Submission). s.caller == i) xs ys

pub length-numbered : (i n : ℕ) (us : List Update) → length (numbered i n us) ≡ length us
length-numbered i n [] = refl
length-numbered i n (u ∷ us) = ap suc (length-numbered i (n + 1) us)

pub numbered-append : (i n : ℕ) (xs ys : List Update) → numbered i n (xs ++ ys) ≡ numbered i n xs ++ numbered i (n + length xs) ys
numbered-append i n [] ys = (let e : n ≡ n + 0 = omega arith in ap (λ (k : ℕ). numbered i k ys) e)
numbered-append i n (x ∷ xs) ys =
    let e : n + 1 + length xs ≡ n + suc (length xs) = omega arith in
    ap (λ (l : List Submission). record { caller = i; seq = n; update = x } ∷ l) (numbered-append i (n + 1) xs ys ∙ ap (λ (k : ℕ). numbered i (n + 1) xs ++ numbered i k ys) e)

pub refused_map : (A B : Type 0) (fs : List Bool) → (A → B) → AreRefused A fs → AreRefused B fs
refused_map A B [] f h = tt
refused_map A B (true ∷ fs) f h = (f h.0, h.1, refused_map A B fs f h.2)
refused_map A B (false ∷ fs) f h = refused_map A B fs f h

-- one that isn't refused, where none was
pub refused_not : (A : Type 0) (fs : List Bool) → (A → ⊥) → AreRefused A fs → AreRefused A (fs ++ false ∷ [])
refused_not A [] f h = tt
refused_not A (true ∷ fs) f h = absurd (f h.0)
refused_not A (false ∷ fs) f h = refused_not A fs f h

all_next : (P : Bool → Type 0) (fs : List Bool) (b : Bool) → AllByRecursion P fs → P b → AllByRecursion P (fs ++ b ∷ [])
all_next P [] b h p = (p, tt)
all_next P (f ∷ fs) b h p = (h.0, all_next P fs b h.1 p)

-- one more that is refused
pub refused_more : (A : Type 0) (fs : List Bool) → A → AreRefused A fs → AreRefused A (fs ++ true ∷ [])
refused_more A [] a h = (a, tt, tt)
refused_more A (true ∷ fs) a h = (h.0, all_next (λ b. b ≡ true) fs true h.1 refl, refused_more A fs a h.2)
refused_more A (false ∷ fs) a h = refused_more A fs a h

-- fewer of the beginning of a list are a beginning
pub take_fewer : {A : Type 0} (xs : List A) (n m : ℕ) → n ≤ m → IsPrefix (take n xs) (take m xs)
take_fewer [] zero zero le = ([], refl)
take_fewer [] zero (suc m) le = ([], refl)
take_fewer [] (suc n) zero le = absurd (omega (arith, le))
take_fewer [] (suc n) (suc m) le = ([], refl)
take_fewer (x ∷ xs) zero m le = (take m (x ∷ xs), refl)
take_fewer (x ∷ xs) (suc n) zero le = absurd (omega (arith, le))
take_fewer {A} (x ∷ xs) (suc n) (suc m) le = (let r = take_fewer xs n m (omega (arith, le)) in (r.0, ap (λ (l : List A). x ∷ l) r.1))

pub take_longer : {A : Type 0} (xs ys : List A) (n : ℕ) → IsPrefix xs ys → IsPrefix (take n xs) (take n ys)
take_longer [] ys n p = (take n ys, take_none ys n)
  where
    take_none : {B : Type 0} (zs : List B) (m : ℕ) → take m zs ≡ take m [] ++ take m zs
    take_none zs zero = refl
    take_none zs (suc m) = refl
take_longer (x ∷ xs) ys zero p = ([], take_zero ys)
  where
    take_zero : {B : Type 0} (zs : List B) → take 0 zs ≡ []
    take_zero [] = refl
    take_zero (z ∷ zs) = refl
take_longer {A} (x ∷ xs) ys (suc n) p =
    let r = take_longer xs (xs ++ p.0) n (p.0, refl) in
    (r.0, ap (take (suc n)) p.1 ∙ ap (λ (l : List A). x ∷ l) r.1)

pub take_whole : {A : Type 0} (xs : List A) (n : ℕ) → length xs ≡ n → take n xs ≡ xs
take_whole [] zero e = refl
take_whole [] (suc n) e = refl
take_whole (x ∷ xs) zero e = absurd (omega (arith, e))
take_whole {A} (x ∷ xs) (suc n) e = ap (λ (l : List A). x ∷ l) (take_whole xs n (omega (arith, e)))

pub own_longer : (i : ℕ) (xs ys : List Submission) → IsPrefix xs ys → length (own i xs) ≤ length (own i ys)
own_longer i xs ys p = prefix_length (own i xs) (own i ys) (prefix_filter (λ (s : Submission). s.caller == i) xs ys p)

pub contains_more : (xs ys : List ℕ) (n : ℕ) → IsPrefix xs ys → Contains xs n → Contains ys n
contains_more xs ys n p h = subst (λ (w : List ℕ). Contains w n) (sym p.1) (h.0, omega (arith, h.1, length-append xs p.0), get_or_append_left xs p.0 n h.0 h.1 ∙ h.2)

pub last_contained : (xs : List ℕ) (n : ℕ) → Contains (xs ++ n ∷ []) n
last_contained xs n = (length xs, omega (arith, length-append xs (n ∷ [])), get_or-append_seam xs n [] n)

pub all_last : {A : Type 0} (P : A → Type 0) (xs : List A) (x : A) → AllByRecursion P xs → P x → AllByRecursion P (xs ++ x ∷ [])
all_last P [] x h p = (p, tt)
all_last P (y ∷ xs) x h p = (h.0, all_last P xs x h.1 p)

pub line_next : {A : Type 0} (xs ys zs : List A) (x : A) → xs ++ ys ≡ zs → xs ++ (ys ++ x ∷ []) ≡ zs ++ x ∷ []
line_next {A} xs ys zs x e = sym (append_assoc xs ys (x ∷ [])) ∙ ap (λ (l : List A). l ++ x ∷ []) e

pub empty_list : {A : Type 0} (xs : List A) → length xs ≤ 0 → xs ≡ []
empty_list [] h = refl
empty_list (x ∷ xs) h = absurd (omega (arith, h))
