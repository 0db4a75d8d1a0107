-- What an item that comes to a list of keys, or goes, leaves there. The order need not tell keys apart.
use Rattle.std.proofs.Common.{◌≡◌, ◌≢◌, ◌⊎◌, List, [], ◌∷◌, sym, subst, inl, inr}
use Rattle.std.specs.List.{Contains}
use Rattle.std.specs.declared.cmp.Ordering.{Ordering}
use Rattle.std.specs.declared.cmp.Ordering.TheVariants.{Equal}
use Rattle.keyed.specs.KeyedLaws.{by_order}
use Rattle.keyed.specs.Members.{contains_first, contains_later, contains_cases, contains_none}
use Rattle.keyed.specs.Sets.{insert, delete}

module _ {K : Type 0} (cmp : K → K → Ordering) where
  here : (k : K) (xs : List K) (y : K) → y ≡ k → Contains (k ∷ xs) y
  here k xs y is = let P : K → Type 0 = λ z. Contains (k ∷ xs) z in subst P (sym is) (contains_first k xs)

  pub insert_cases : (k : K) (xs : List K) (y : K) → Contains (insert cmp k xs) y → (y ≡ k) ⊎ Contains xs y
  insert_cases k [] y = λ has. contains_cases k [] y has
  insert_cases k (x ∷ xs) y = by_order (cmp k x)
      (λ o. rw o (λ has. contains_cases k (x ∷ xs) y has))
      (λ o. rw o (λ has. elim (contains_cases k xs y has) [ inl is ↦ inl is | inr rest ↦ inr (contains_later x xs y rest) ]))
      (λ o. rw o (λ has. elim (contains_cases x (insert cmp k xs) y has) [
        | inl is ↦ inr (here x xs y is)
        | inr rest ↦ elim (insert_cases k xs y rest) [ inl is ↦ inl is | inr later ↦ inr (contains_later x xs y later) ]
      ]))

  pub delete_cases : (k : K) (xs : List K) (y : K) → Contains (delete cmp k xs) y → Contains xs y
  delete_cases k [] y = λ has. has
  delete_cases k (x ∷ xs) y = by_order (cmp k x)
      (λ o. rw o (λ has. has))
      (λ o. rw o (λ has. contains_later x xs y has))
      (λ o. rw o (λ has. elim (contains_cases x (delete cmp k xs) y has) [
        | inl is ↦ here x xs y is
        | inr rest ↦ contains_later x xs y (delete_cases k xs y rest)
      ]))

  -- where none is tied with the new item, all stay
  pub insert_keeps : (k : K) (xs : List K) (y : K) → ((x : K) → Contains xs x → cmp k x ≢ Equal) → Contains xs y → Contains (insert cmp k xs) y
  insert_keeps k [] y free has = absurd (contains_none y has)
  insert_keeps k (x ∷ xs) y free has = by_order (cmp k x)
      (λ o. rw o (contains_later k (x ∷ xs) y has))
      (λ o. absurd (free x (contains_first x xs) o))
      (λ o. rw o (elim (contains_cases x xs y has) [
        | inl is ↦ here x (insert cmp k xs) y is
        | inr rest ↦ contains_later x (insert cmp k xs) y (insert_keeps k xs y (λ z in_it. free z (contains_later x xs z in_it)) rest)
      ]))
