-- Whether a list that ascends has one with a property that only those at a key can have: the one at the key's place is asked.
use Rattle.std.proofs.Common.{◌≡◌, ℕ, zero, suc, ◌<◌, Bool, true, false, List, [], ◌∷◌, length, get_or, Ok, Err, refl, sym, ap, subst, is_eq, ◌∙◌, arith}
use Rattle.std.specs.Cmp.{IsTotalOrder}
use Rattle.std.specs.List.{AllByRecursion, list_any}
use Rattle.std.specs.List.Sorted.{IsStrictlySortedBy}
use Rattle.std.proofs.lemmas.Cmp.{alike_right, tied_itself}
use Rattle.std.specs.Ordering.{ordering_reverse}
use Rattle.std.specs.declared.cmp.Ordering.{Ordering}
use Rattle.std.specs.declared.cmp.Ordering.TheVariants.{Less, Equal, Greater}
use Rattle.keyed.specs.Cases.{by_bool}
use Rattle.keyed.specs.SetPlaces.{IsKeyPlace}
use Rattle.net_types.specs.Cidr.{Cidr}
use Rattle.net_types.specs.KeyOrder.{ip_order, prefix_cmp, prefix_order}
use Rattle.switch_model.specs.Addresses.{addr_cmp, same_addr}

module _ {K : Type 0} (cmp : K → K → Ordering) (total : IsTotalOrder cmp) (k : K) (p : K → Bool) (only : (x : K) → p x ≡ true → cmp x k ≡ Equal) where
  lower : (x : K) → cmp x k ≡ Less → p x ≡ false
  lower x h = by_bool (p x) (λ e. let no : Less ≡ Equal = sym h ∙ only x e in absurd (cc)) (λ e. e)

  higher : (x : K) → cmp x k ≡ Greater → p x ≡ false
  higher x h = by_bool (p x) (λ e. let no : Greater ≡ Equal = sym h ∙ only x e in absurd (cc)) (λ e. e)

  none_after : (x : K) (xs : List K) → cmp x k ≡ Equal → AllByRecursion (λ y. cmp x y ≡ Less) xs → list_any p xs ≡ false
  none_after x [] tie all = refl
  none_after x (y ∷ ys) tie all = rw (higher y (sym (alike_right total x k y tie) ∙ total.antisymm y x ∙ ap ordering_reverse all.0)) (none_after x ys tie all.1)

  less_at : (x : K) (xs : List K) (n : ℕ) (d : K) → AllByRecursion (λ y. cmp x y ≡ Less) xs → n < length xs → cmp x (get_or xs n d) ≡ Less
  less_at x [] n d all lt = absurd (omega arith)
  less_at x (y ∷ ys) zero d all lt = all.0
  less_at x (y ∷ ys) (suc n) d all lt = less_at x ys n d all.1 (omega arith)

  pub any_at_place : (l : List K) (n : ℕ) (d : K) → IsStrictlySortedBy cmp l → IsKeyPlace cmp k l (Ok n) → list_any p l ≡ p (get_or l n d)
  unfolding IsStrictlySortedBy
  any_at_place [] n d asc is = absurd (omega (arith, is.0))
  any_at_place (x ∷ xs) zero d asc is = by_bool (p x) (λ e. rw e refl) (λ e. rw e (none_after x xs (is.1 d) asc.0))
  any_at_place (x ∷ xs) (suc n) d asc is = rw (lower x (sym (alike_right total (get_or xs n d) k x (is.1 d)) ∙ less_at x xs n d asc.0 (omega (arith, is.0)))) (any_at_place xs n d asc.1 (omega (arith, is.0), is.1))

  pub none_at_gap : (l : List K) (n : ℕ) → IsKeyPlace cmp k l (Err n) → list_any p l ≡ false
  none_at_gap [] n is = refl
  none_at_gap (x ∷ xs) zero is = rw (higher x (is.2 0 x (omega arith) (omega arith))) (none_at_gap xs zero (omega arith, λ i d low lt. absurd (omega arith), λ i d low lt. is.2 (suc i) d (omega arith) (omega arith)))
  none_at_gap (x ∷ xs) (suc n) is = rw (lower x (is.1 0 x (omega arith) (omega arith))) (none_at_gap xs n (omega (arith, is.0), λ i d low lt. is.1 (suc i) d (omega arith) (omega arith), λ i d low lt. is.2 (suc i) d (omega arith) (omega arith)))

is_equal : (o : Ordering) → is_eq o ≡ true → o ≡ Equal
is_equal Less h = absurd (cc)
is_equal Equal h = refl
is_equal Greater h = absurd (cc)

-- the same address has the same ip
pub same_ip : (wanted addr : Cidr) → same_addr wanted addr ≡ true → addr_cmp addr wanted ≡ Equal
same_ip wanted addr e =
    let exact : wanted ≡ addr = prefix_order.exact wanted addr (is_equal (prefix_cmp wanted addr) e) in
    subst (λ a. addr_cmp a wanted ≡ Equal) exact (tied_itself ip_order.total wanted.ip)
