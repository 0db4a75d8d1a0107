-- What tests tell.
use Rattle.std.proofs.Common.{◌≡◌, ◌⊎◌, Bool, true, false, Option, None, Some, List, [], ◌∷◌, if◌then◌else◌, refl, sym, subst, inl, inr}
use Rattle.std.specs.List.{Contains}
use Rattle.std.specs.Option.{is_some}
use Rattle.std.specs.Ordering.{eq_by_cmp}
use Rattle.std.specs.declared.cmp.Ordering.{Ordering}
use Rattle.keyed.specs.Keyed.{IsKeyOrder}
use Rattle.keyed.specs.KeyedLaws.{by_order, decide, same}
use Rattle.keyed.specs.Members.{contains_first, contains_later, contains_cases, contains_none}

pub false_true : false ≡ true → ⊥
false_true e = cc

-- of two tests each holds where the other does
pub one_truth : (s t : Bool) → (s ≡ true → t ≡ true) → (t ≡ true → s ≡ true) → s ≡ t
one_truth true t there back = sym (there refl)
one_truth false true there back = back refl
one_truth false false there back = refl

pub if_true : {A : Type 0} (b : Bool) (x y : A) → b ≡ true → (if b then x else y) ≡ x
if_true b x y e = rw e refl

pub if_false : {A : Type 0} (b : Bool) (x y : A) → b ≡ false → (if b then x else y) ≡ y
if_false b x y e = rw e refl

pub some_value : {V : Type 0} (o : Option V) → is_some o ≡ true → (v : V) × (o ≡ Some v)
some_value None e = absurd (false_true e)
some_value (Some v) e = (v, refl)

module _ {K : Type 0} (cmp : K → K → Ordering) (order : IsKeyOrder cmp) where
  -- keys that are tied are one
  pub tied_same : (x y : K) → eq_by_cmp cmp x y ≡ true → x ≡ y
  tied_same x y e = by_order (cmp x y)
      (λ h. let differs : false ≡ true = rw h at e in absurd (false_true differs))
      (λ h. order.exact x y h)
      (λ h. let differs : false ≡ true = rw h at e in absurd (false_true differs))

  pub same_tied : (x : K) → eq_by_cmp cmp x x ≡ true
  same_tied x = rw (same cmp order x) refl

  -- whether a key is one of a list
  pub find_key : (q : K) (keys : List K) → Contains keys q ⊎ (Contains keys q → ⊥)
  find_key q [] = inr (contains_none q)
  find_key q (k ∷ keys) = elim (decide cmp order q k) [
    | inl e ↦ inl (subst (λ (x : K). Contains (k ∷ keys) x) (sym e) (contains_first k keys))
    | inr other ↦ elim (find_key q keys) [
      | inl has ↦ inl (contains_later k keys q has)
      | inr absent ↦ inr (λ has. elim (contains_cases k keys q has) [ inl e ↦ other e | inr rest ↦ absent rest ])
    ]
  ]
