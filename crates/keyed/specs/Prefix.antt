-- One list begins another.
use Rattle.std.proofs.Common.{◌≡◌, ◌↔◌, ◌≤◌, ◌+◌, ℕ, zero, suc, Bool, None, Some, List, [], ◌∷◌, ◌++◌, length, map, filter, take, drop, slice_get, refl, sym, ap, subst, ◌∙◌, append_assoc, append-nil, arith}
use Rattle.std.proofs.lemmas.List.{length-append, map-append, take-append-drop, take-append-le, take_at, take_all, drop_at}
use Rattle.std.proofs.lemmas.List.Elements.{filter-append}
use mathlib.Core.List as base

-- the second list is the first one, and some rest behind it
abbrev pub IsPrefix : {A : Type 0} → List A → List A → Type 0
IsPrefix {A} front all = (rest : List A) × (all ≡ front ++ rest)

none_some : {A : Type 0} {x : A} → None ≡ Some x → ⊥
none_some h = cc

module _ {A : Type 0} where
  pub prefix_self : (xs : List A) → IsPrefix xs xs
  prefix_self xs = ([], sym (append-nil xs))

  pub prefix_none : (xs : List A) → IsPrefix [] xs
  prefix_none xs = (xs, refl)

  pub prefix_append : (xs ys : List A) → IsPrefix xs (xs ++ ys)
  prefix_append xs ys = (ys, refl)

  -- the library's word says the same, with the two sides turned
  pub prefix_base : (xs ys : List A) → IsPrefix xs ys ↔ base.IsPrefix xs ys
  prefix_base xs ys = ((λ p. (p.0, sym p.1)), (λ p. (p.0, sym p.1)))

  pub prefix_trans : (xs ys zs : List A) → IsPrefix xs ys → IsPrefix ys zs → IsPrefix xs zs
  prefix_trans xs ys zs p q = (p.0 ++ q.0, q.1 ∙ ap (λ (l : List A). l ++ q.0) p.1 ∙ append_assoc xs p.0 q.0)

  -- it begins what is longer, too
  pub prefix_longer : (xs ys zs : List A) → IsPrefix xs ys → IsPrefix xs (ys ++ zs)
  prefix_longer xs ys zs p = (p.0 ++ zs, ap (λ (l : List A). l ++ zs) p.1 ∙ append_assoc xs p.0 zs)

  -- what is shorter begins it, too
  pub prefix_shorter : (xs ys zs : List A) → IsPrefix (xs ++ ys) zs → IsPrefix xs zs
  prefix_shorter xs ys zs p = (ys ++ p.0, p.1 ∙ append_assoc xs ys p.0)

  pub prefix_after : (xs ys zs : List A) → IsPrefix ys zs → IsPrefix (xs ++ ys) (xs ++ zs)
  prefix_after xs ys zs p = (p.0, ap (λ (l : List A). xs ++ l) p.1 ∙ sym (append_assoc xs ys p.0))

  pub take_prefix : (n : ℕ) (xs : List A) → IsPrefix (take n xs) xs
  take_prefix n xs = (drop n xs, sym (take-append-drop n xs))

  pub prefix_take : (xs ys : List A) → IsPrefix xs ys → xs ≡ take (length xs) ys
  prefix_take xs ys p = sym (ap (take (length xs)) p.1 ∙ take_at xs p.0 (length xs) refl)

  -- what stands behind it
  pub prefix_drop : (xs ys : List A) (p : IsPrefix xs ys) → drop (length xs) ys ≡ p.0
  prefix_drop xs ys p = ap (drop (length xs)) p.1 ∙ drop_at xs p.0 (length xs) refl

  pub prefix_rest : (xs ys : List A) → IsPrefix xs ys → ys ≡ xs ++ drop (length xs) ys
  prefix_rest xs ys p = p.1 ∙ ap (λ (l : List A). xs ++ l) (sym (prefix_drop xs ys p))

  pub prefix_length : (xs ys : List A) → IsPrefix xs ys → length xs ≤ length ys
  prefix_length xs ys p = let e : length ys ≡ length xs + length p.0 = ap length p.1 ∙ length-append xs p.0 in omega (arith, e)

  -- one that isn't shorter is the whole list
  pub prefix_whole : (xs ys : List A) → IsPrefix xs ys → length ys ≤ length xs → xs ≡ ys
  prefix_whole xs ys p long = prefix_take xs ys p ∙ take_all (length xs) ys long

  pub prefix_within : (n : ℕ) (xs ys : List A) → IsPrefix xs ys → n ≤ length xs → take n ys ≡ take n xs
  prefix_within n xs ys p within = ap (take n) p.1 ∙ take-append-le n xs p.0 within

  -- of two that begin one list the shorter begins the longer
  pub prefix_between : (xs ys zs : List A) → IsPrefix xs zs → IsPrefix ys zs → length xs ≤ length ys → IsPrefix xs ys
  prefix_between xs ys zs p q shorter =
      let e : take (length xs) ys ≡ xs = sym (prefix_within (length xs) ys zs q shorter) ∙ sym (prefix_take xs zs p) in
      subst (λ (l : List A). IsPrefix l ys) e (take_prefix (length xs) ys)

  pub prefix_get : (xs ys : List A) (n : ℕ) (x : A) → IsPrefix xs ys → slice_get xs n ≡ Some x → slice_get ys n ≡ Some x
  prefix_get [] ys n x p is = absurd (none_some is)
  prefix_get (y ∷ xs) ys zero x p is = ap (λ (l : List A). slice_get l zero) p.1 ∙ is
  prefix_get (y ∷ xs) ys (suc n) x p is = ap (λ (l : List A). slice_get l (suc n)) p.1 ∙ prefix_get xs (xs ++ p.0) n x (prefix_append xs p.0) is

  pub prefix_filter : (test : A → Bool) (xs ys : List A) → IsPrefix xs ys → IsPrefix (filter test xs) (filter test ys)
  prefix_filter test xs ys p = (filter test p.0, ap (filter test) p.1 ∙ filter-append test xs p.0)

pub prefix_map : {A B : Type 0} (f : A → B) (xs ys : List A) → IsPrefix xs ys → IsPrefix (map f xs) (map f ys)
prefix_map f xs ys p = (map f p.0, ap (map f) p.1 ∙ map-append f xs p.0)
