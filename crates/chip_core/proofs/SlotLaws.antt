-- What additions, changes and removals do to a table of slots and to its index of names.
use Rattle.std.proofs.Common.{◌≡◌, ℕ, ◌<◌, get_or, Option, List, None, Some, IsSome, refl, sym, ap, ◌∙◌, subst, inl, inr}
use Rattle.std.specs.List.{All}
use Rattle.std.specs.Ordering.{nat_cmp}
use Rattle.std.proofs.lemmas.List.{get_or_default}
use Rattle.std.specs.declared.cmp.Ordering.{Ordering}
use Rattle.keyed.specs.Keyed.{IsKeyOrder, at, put, without, Ascends}
use Rattle.keyed.specs.KeyOrders.{nat_order}
use Rattle.keyed.specs.KeyedLaws.{decide, at-put, at-put_other, at-without, at-without_other}
use Rattle.keyed.specs.Named.{key_of, AreDistinct}
use Rattle.keyed.specs.ValueLaws.{at-among, among-at}
use Rattle.keyed.specs.NamedLaws.{key_of-put_same, key_of-put_other, key_of-put_again, key_of-without_same, key_of-without_other, key_of-at}

pub by_value : {T G : Type 0} (o : Option T) → IsSome o → ((x : T) → o ≡ Some x → G) → G
by_value None there f = absurd (cc)
by_value (Some x) there f = f x refl

module _ {N V : Type 0} (cmp : N → N → Ordering) (order : IsKeyOrder cmp) (name : V → N) where
  -- the index has the slot of each name
  abbrev pub Finds : List (N × ℕ) → List (ℕ × V) → Type 0
  Finds index rows = (n : N) → at cmp n index ≡ key_of cmp name n rows

  pub finds-put : (slot : ℕ) (v : V) (index : List (N × ℕ)) (rows : List (ℕ × V)) → Finds index rows → at nat_cmp slot rows ≡ None → key_of cmp name (name v) rows ≡ None → Finds (put cmp (name v) slot index) (put nat_cmp slot v rows)
  finds-put slot v index rows found free absent n = elim (decide cmp order n (name v)) [
    | inl here ↦ subst (λ (m : N). at cmp m (put cmp (name v) slot index) ≡ key_of cmp name m (put nat_cmp slot v rows)) (sym here) (at-put cmp order (name v) slot index ∙ sym (key_of-put_same nat_cmp nat_order cmp order name slot v rows absent))
    | inr other ↦ at-put_other cmp order n (name v) slot index other ∙ found n ∙ sym (key_of-put_other nat_cmp nat_order cmp order name n slot v rows free (λ same_name. other (sym same_name)))
  ]

  pub finds-set : (slot : ℕ) (v w : V) (index : List (N × ℕ)) (rows : List (ℕ × V)) → Finds index rows → at nat_cmp slot rows ≡ Some w → name v ≡ name w → Finds index (put nat_cmp slot v rows)
  finds-set slot v w index rows found there names n = found n ∙ sym (key_of-put_again nat_cmp nat_order cmp order name n slot v w rows there names)

  pub finds-without : (slot : ℕ) (v : V) (index : List (N × ℕ)) (rows : List (ℕ × V)) → Finds index rows → Ascends cmp index → AreDistinct cmp name rows → at nat_cmp slot rows ≡ Some v → Finds (without cmp (name v) index) (without nat_cmp slot rows)
  finds-without slot v index rows found asc distinct there n = elim (decide cmp order n (name v)) [
    | inl here ↦ subst (λ (m : N). at cmp m (without cmp (name v) index) ≡ key_of cmp name m (without nat_cmp slot rows)) (sym here) (at-without cmp order (name v) index asc ∙ sym (key_of-without_same nat_cmp nat_order cmp order name slot v rows distinct there))
    | inr other ↦ at-without_other cmp order n (name v) index asc other ∙ found n ∙ sym (key_of-without_other nat_cmp nat_order cmp order name n slot v rows there (λ same_name. other (sym same_name)))
  ]

  pub indexed : (slot : ℕ) (v : V) (index : List (N × ℕ)) (rows : List (ℕ × V)) → Finds index rows → AreDistinct cmp name rows → at nat_cmp slot rows ≡ Some v → at cmp (name v) index ≡ Some slot
  indexed slot v index rows found distinct there = found (name v) ∙ key_of-at nat_cmp nat_order cmp order name slot v rows distinct there

module _ {V : Type 0} (high : ℕ) where
  -- each slot that is taken is below
  abbrev pub Below : List (ℕ × V) → Type 0
  Below rows = (slot : ℕ) → IsSome (at nat_cmp slot rows) → slot < high

  pub below-put : (slot : ℕ) (v : V) (rows : List (ℕ × V)) → Below rows → slot < high → Below (put nat_cmp slot v rows)
  below-put slot v rows within lt s there = elim (decide nat_cmp nat_order s slot) [
    | inl here ↦ subst (λ (n : ℕ). n < high) (sym here) lt
    | inr other ↦ within s (subst (λ o. IsSome o) (at-put_other nat_cmp nat_order s slot v rows other) there)
  ]

  pub below-without : (slot : ℕ) (rows : List (ℕ × V)) → Ascends nat_cmp rows → Below rows → Below (without nat_cmp slot rows)
  below-without slot rows asc within s there = elim (decide nat_cmp nat_order s slot) [
    | inl here ↦ let none = at-without nat_cmp nat_order slot rows asc in let gone : at nat_cmp s (without nat_cmp slot rows) ≡ None = subst (λ (n : ℕ). at nat_cmp n (without nat_cmp slot rows) ≡ None) (sym here) none in absurd (cc)
    | inr other ↦ within s (subst (λ o. IsSome o) (at-without_other nat_cmp nat_order s slot rows asc other) there)
  ]

  -- that slots are below, row by row
  pub all-below : (rows : List (ℕ × V)) → Ascends nat_cmp rows → Below rows → All (λ row. row.0 < high) rows
  all-below rows asc within k d lt =
      let found = at-among nat_cmp nat_order (get_or rows k d) rows asc (k, (lt, get_or_default rows k d (get_or rows k d) lt)) in
      within (get_or rows k d).0 (rw found refl)

  pub below-all : (rows : List (ℕ × V)) → All (λ row. row.0 < high) rows → Below rows
  below-all rows all slot there = by_value (at nat_cmp slot rows) there (λ v is.
      let among = among-at nat_cmp nat_order slot v rows is in
      subst (λ (n : ℕ). n < high) (sym (ap (λ (row : ℕ × V). row.0) among.1.1)) (all among.0 (slot, v) among.1.0))
