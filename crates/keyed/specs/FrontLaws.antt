-- The front of a list that ascends.
use Rattle.std.proofs.Common.{◌≡◌, ◌≢◌, ◌++◌, List, [], ◌∷◌, None, Some, refl, sym, ap, ◌∙◌, subst}
use Rattle.std.specs.declared.cmp.Ordering.{Ordering}
use Rattle.std.specs.Ordering.{ordering_reverse}
use Rattle.std.specs.declared.cmp.Ordering.TheVariants.{Less, Greater}
use Rattle.keyed.specs.Keyed.{IsKeyOrder, at, put, change, IsBelow, Ascends}
use Rattle.keyed.specs.KeyedLaws.{by_order, same}
use Rattle.keyed.specs.Cases.{none_some}

-- the key is after each of the list
abbrev pub IsAbove : {K V : Type 0} → (K → K → Ordering) → K → List (K × V) → Type 0
IsAbove cmp k [] = Unit {0}
IsAbove cmp k (e ∷ es) = (cmp k e.0 ≡ Greater) × IsAbove cmp k es

module _ {K V : Type 0} (cmp : K → K → Ordering) (is_order : IsKeyOrder cmp) where
  below_mid : (k : K) (f : List (K × V)) (e : K × V) (b : List (K × V)) → IsBelow cmp k (f ++ (e ∷ b)) → Ascends cmp (f ++ (e ∷ b)) → cmp k e.0 ≡ Less
  below_mid k [] e b below asc = below
  below_mid k (x ∷ xs) e b below asc = is_order.total.trans k x.0 e.0 below (below_mid x.0 xs e b asc.0 asc.1)

  above_front : (f : List (K × V)) (e : K × V) (b : List (K × V)) → Ascends cmp (f ++ (e ∷ b)) → IsAbove cmp e.0 f
  above_front [] e b asc = tt
  above_front (x ∷ xs) e b asc = (is_order.total.antisymm e.0 x.0 ∙ ap ordering_reverse (below_mid x.0 xs e b asc.0 asc.1), above_front xs e b asc.1)

  -- the key after a front is after each of it
  pub above : (f : List (K × V)) (e : K × V) (b whole : List (K × V)) → f ++ (e ∷ b) ≡ whole → Ascends cmp whole → IsAbove cmp e.0 f
  above f e b whole is asc = above_front f e b (subst (λ (l : List (K × V)). Ascends cmp l) (sym is) asc)

  pub put_past : (k : K) (v : V) (f : List (K × V)) → IsAbove cmp k f → put cmp k v f ≡ f ++ ((k, v) ∷ [])
  put_past k v [] up = refl
  put_past k v (x ∷ xs) up = rw up.0 (ap (λ r. x ∷ r) (put_past k v xs up.1))

  pub at_past : (k : K) (f r : List (K × V)) → IsAbove cmp k f → at cmp k (f ++ r) ≡ at cmp k r
  at_past k [] r up = refl
  at_past k (x ∷ xs) r up = rw up.0 (at_past k xs r up.1)

  pub change_past : (k : K) (g : V → V) (f r : List (K × V)) → IsAbove cmp k f → change cmp k g (f ++ r) ≡ f ++ change cmp k g r
  change_past k g [] r up = refl
  change_past k g (x ∷ xs) r up = rw up.0 (ap (λ l. x ∷ l) (change_past k g xs r up.1))

  pub at_new : (k : K) (f : List (K × V)) → IsAbove cmp k f → at cmp k f ≡ None
  at_new k [] up = refl
  at_new k (x ∷ xs) up = rw up.0 (at_new k xs up.1)

  -- the entry after the front
  pub at_mid : (k : K) (v : V) (f r : List (K × V)) → IsAbove cmp k f → at cmp k (f ++ ((k, v) ∷ r)) ≡ Some v
  at_mid k v f r up = at_past k f ((k, v) ∷ r) up ∙ rw (same cmp is_order k) refl

  pub change_mid : (k : K) (v : V) (g : V → V) (f r : List (K × V)) → IsAbove cmp k f → change cmp k g (f ++ ((k, v) ∷ r)) ≡ f ++ ((k, g v) ∷ r)
  change_mid k v g f r up = change_past k g f ((k, v) ∷ r) up ∙ ap (λ l. f ++ l) (rw (same cmp is_order k) refl)

  -- what stands in the front stands in the whole
  at_more : (q : K) (v : V) (f r : List (K × V)) → at cmp q f ≡ Some v → at cmp q (f ++ r) ≡ Some v
  at_more q v [] r is = absurd (none_some is)
  at_more q v (x ∷ xs) r is = by_order (cmp q x.0)
      (λ h. let no : None ≡ Some v = rw h at is in absurd (none_some no))
      (λ h. let here : Some x.1 ≡ Some v = rw h at is in rw h here)
      (λ h. let later : at cmp q xs ≡ Some v = rw h at is in rw h (at_more q v xs r later))

  pub at_front : (f : List (K × V)) (r whole : List (K × V)) (q : K) (v : V) → f ++ r ≡ whole → at cmp q f ≡ Some v → at cmp q whole ≡ Some v
  at_front f r whole q v is there = subst (λ (l : List (K × V)). at cmp q l ≡ Some v) is (at_more q v f r there)

  -- under another key than the one after it
  pub apart_front : (k : K) (f : List (K × V)) (q : K) (v : V) → IsAbove cmp k f → at cmp q f ≡ Some v → q ≢ k
  apart_front k f q v up there same_key = none_some (sym (at_new k f up) ∙ subst (λ (x : K). at cmp x f ≡ Some v) same_key there)

  pub at_entry : (f : List (K × V)) (e : K × V) (b whole : List (K × V)) → f ++ (e ∷ b) ≡ whole → Ascends cmp whole → at cmp e.0 whole ≡ Some e.1
  at_entry f e b whole is asc = subst (λ (l : List (K × V)). at cmp e.0 l ≡ Some e.1) is (at_mid e.0 e.1 f b (above f e b whole is asc))

  ascends_more : (f r : List (K × V)) → Ascends cmp (f ++ r) → Ascends cmp f
  ascends_more [] r asc = tt
  ascends_more (x ∷ []) r asc = (tt, tt)
  ascends_more (x ∷ y ∷ ys) r asc = (asc.0, ascends_more (y ∷ ys) r asc.1)

  pub ascends_front : (f r whole : List (K × V)) → f ++ r ≡ whole → Ascends cmp whole → Ascends cmp f
  ascends_front f r whole is asc = ascends_more f r (subst (λ (l : List (K × V)). Ascends cmp l) (sym is) asc)
