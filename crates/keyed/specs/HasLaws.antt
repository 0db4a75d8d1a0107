-- What stands under a key, and what is kept of it.
use Rattle.std.proofs.Common.{◌≡◌, ◌≢◌, false, List, Some, refl, sym, ap, ◌∙◌, subst, inl, inr}
use Rattle.std.specs.Option.{option_map, is_some, is_none}
use Rattle.std.specs.declared.cmp.Ordering.{Ordering}
use Rattle.keyed.specs.Every.{Has}
use Rattle.keyed.specs.Keyed.{IsKeyOrder, at, put, without, change, Ascends}
use Rattle.keyed.specs.KeyedLaws.{decide, at-put, at-put_other, at-without_other}
use Rattle.keyed.specs.Cases.{found, is_nothing, none_some}
use Rattle.keyed.specs.ValueLaws.{at-change, at-change_other}

module _ {K V : Type 0} (cmp : K → K → Ordering) (is_order : IsKeyOrder cmp) where
  -- a value under a key that was free, or a value that is such too
  pub has-put : (q k : K) (v : V) (Is : V → Type 0) (l : List (K × V)) → (q ≡ k → Is v) → Has cmp q Is l → Has cmp q Is (put cmp k v l)
  has-put q k v Is l so has = elim (decide cmp is_order q k) [
    | inl here ↦ record { value = v; there = subst (λ (x : K). at cmp x (put cmp k v l) ≡ Some v) (sym here) (at-put cmp is_order k v l); such = so here }
    | inr other ↦ record { value = has.value; there = at-put_other cmp is_order q k v l other ∙ has.there; such = has.such }
  ]

  pub has-put_new : (q k : K) (v : V) (Is : V → Type 0) (l : List (K × V)) → is_some (at cmp k l) ≡ false → Has cmp q Is l → Has cmp q Is (put cmp k v l)
  has-put_new q k v Is l free has =
      let apart : q ≢ k = λ same. none_some (sym (is_nothing (at cmp k l) free) ∙ subst (λ (x : K). at cmp x l ≡ Some has.value) same has.there) in
      record { value = has.value; there = at-put_other cmp is_order q k v l apart ∙ has.there; such = has.such }

  pub has-without : (q k : K) (Is : V → Type 0) (l : List (K × V)) → Ascends cmp l → q ≢ k → Has cmp q Is l → Has cmp q Is (without cmp k l)
  has-without q k Is l asc apart has = record { value = has.value; there = at-without_other cmp is_order q k l asc apart ∙ has.there; such = has.such }

  pub has-change_other : (q k : K) (f : V → V) (Is : V → Type 0) (l : List (K × V)) → q ≢ k → Has cmp q Is l → Has cmp q Is (change cmp k f l)
  has-change_other q k f Is l apart has = record { value = has.value; there = at-change_other cmp is_order q k f l apart ∙ has.there; such = has.such }

  pub has-change : (q k : K) (f : V → V) (Is Js : V → Type 0) (l : List (K × V)) → ((v : V) → at cmp q l ≡ Some v → Is v → Js v) → ((v : V) → q ≡ k → at cmp q l ≡ Some v → Is v → Js (f v)) → Has cmp q Is l → Has cmp q Js (change cmp k f l)
  has-change q k f Is Js l stays changes has = elim (decide cmp is_order q k) [
    | inl here ↦ record { value = f has.value; there = ap (λ (x : K). at cmp x (change cmp k f l)) here ∙ at-change cmp k f l ∙ ap (λ (x : K). option_map f (at cmp x l)) (sym here) ∙ ap (option_map f) has.there; such = changes has.value here has.there has.such }
    | inr other ↦ record { value = has.value; there = at-change_other cmp is_order q k f l other ∙ has.there; such = stays has.value has.there has.such }
  ]

-- what makes it such may be said another way
pub has_so : {K V : Type 0} {cmp : K → K → Ordering} {k : K} {l : List (K × V)} (Is Js : V → Type 0) → ((v : V) → Is v → Js v) → Has cmp k Is l → Has cmp k Js l
has_so Is Js so has = record { value = has.value; there = has.there; such = so has.value has.such }

-- what a look-up's test says
pub has_found : {K V : Type 0} (cmp : K → K → Ordering) (k : K) (l : List (K × V)) → is_none (at cmp k l) ≡ false → Has cmp k (λ (v : V). Unit {0}) l
has_found cmp k l there = let it = found (at cmp k l) there in record { value = it.0; there = it.1; such = tt }

pub is_there : {K V : Type 0} {cmp : K → K → Ordering} {k : K} {l : List (K × V)} (Is : V → Type 0) → Has cmp k Is l → is_none (at cmp k l) ≡ false
is_there Is has = rw has.there refl
