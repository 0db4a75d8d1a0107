-- What is kept of each entry, and of each two.
use Rattle.std.proofs.Common.{◌≡◌, ◌≢◌, Bool, false, List, [], ◌∷◌, None, Some, refl, sym, ap, ◌∙◌, subst, inl, inr}
use Rattle.std.specs.List.{list_any}
use Rattle.std.proofs.lemmas.Bool.{or_parts, or_from}
use Rattle.std.specs.declared.cmp.Ordering.{Ordering}
use Rattle.keyed.specs.Every.{Every, EachTwo}
use Rattle.keyed.specs.Keyed.{IsKeyOrder, at, put, without, change, Ascends, Each}
use Rattle.keyed.specs.KeyedLaws.{by_order, same, decide, below_at, below_before, below_same, at-put, at-put_other, at-without, at-without_other}
use Rattle.keyed.specs.Cases.{some_is, none_some, mapped}
use Rattle.keyed.specs.ValueLaws.{at-change, at-change_other}

module _ {K V : Type 0} (cmp : K → K → Ordering) (is_order : IsKeyOrder cmp) where
  -- what stands after a put, a removal, a change
  pub at-put_cases : {P : Type 0} (q k : K) (v w : V) (l : List (K × V)) → at cmp q (put cmp k v l) ≡ Some w → (q ≡ k → v ≡ w → P) → (q ≢ k → at cmp q l ≡ Some w → P) → P
  at-put_cases q k v w l is here other = elim (decide cmp is_order q k) [
    | inl same_key ↦ here same_key (some_is (sym (at-put cmp is_order k v l) ∙ subst (λ (x : K). at cmp x (put cmp k v l) ≡ Some w) same_key is))
    | inr apart ↦ other apart (sym (at-put_other cmp is_order q k v l apart) ∙ is)
  ]

  pub at-without_cases : (q k : K) (w : V) (l : List (K × V)) → Ascends cmp l → at cmp q (without cmp k l) ≡ Some w → (q ≢ k) × (at cmp q l ≡ Some w)
  at-without_cases q k w l asc is = elim (decide cmp is_order q k) [
    | inl same_key ↦ absurd (none_some (sym (at-without cmp is_order k l asc) ∙ subst (λ (x : K). at cmp x (without cmp k l) ≡ Some w) same_key is))
    | inr apart ↦ (apart, sym (at-without_other cmp is_order q k l asc apart) ∙ is)
  ]

  pub at-change_cases : {P : Type 0} (q k : K) (f : V → V) (w : V) (l : List (K × V)) → at cmp q (change cmp k f l) ≡ Some w → (q ≡ k → (v : V) → at cmp k l ≡ Some v → f v ≡ w → P) → (q ≢ k → at cmp q l ≡ Some w → P) → P
  at-change_cases q k f w l is here other = elim (decide cmp is_order q k) [
    | inl same_key ↦ let was = mapped f (at cmp k l) w (sym (at-change cmp k f l) ∙ subst (λ (x : K). at cmp x (change cmp k f l) ≡ Some w) same_key is) in here same_key was.0 was.1.0 was.1.1
    | inr apart ↦ other apart (sym (at-change_other cmp is_order q k f l apart) ∙ is)
  ]

  module _ (Is : K → V → Type 0) where
    pub every-put : (k : K) (v : V) (l : List (K × V)) → Is k v → Every cmp Is l → Every cmp Is (put cmp k v l)
    every-put k v l here all = record {
      every = λ q w is. at-put_cases q k v w l is
          (λ key value. subst (λ (x : K). Is x w) (sym key) (subst (λ (x : V). Is k x) value here))
          (λ apart was. all.every q w was);
    }

    pub every-without : (k : K) (l : List (K × V)) → Ascends cmp l → Every cmp Is l → Every cmp Is (without cmp k l)
    every-without k l asc all = record { every = λ q w is. all.every q w (at-without_cases q k w l asc is).1 }

    pub every-change : (k : K) (f : V → V) (l : List (K × V)) → ((v : V) → at cmp k l ≡ Some v → Is k v → Is k (f v)) → Every cmp Is l → Every cmp Is (change cmp k f l)
    every-change k f l step all = record {
      every = λ q w is. at-change_cases q k f w l is
          (λ key v was value. subst (λ (x : K). Is x w) (sym key) (subst (λ (x : V). Is k x) value (step v was (all.every k v was))))
          (λ apart was. all.every q w was);
    }

    pub every-nil : Every cmp Is []
    every-nil = record { every = λ q w is. absurd (none_some is) }

    pub every_first : (e : K × V) (es : List (K × V)) → Every cmp Is (e ∷ es) → Is e.0 e.1
    every_first e es all = all.every e.0 e.1 (rw (same cmp is_order e.0) refl)

    pub every_rest : (e : K × V) (es : List (K × V)) → Ascends cmp (e ∷ es) → Every cmp Is (e ∷ es) → Every cmp Is es
    every_rest e es asc all = record { every = λ q w is. all.every q w (at_later e es q w asc is) }
      where
        at_later : (e : K × V) (es : List (K × V)) (q : K) (w : V) → Ascends cmp (e ∷ es) → at cmp q es ≡ Some w → at cmp q (e ∷ es) ≡ Some w
        at_later e es q w asc is = by_order (cmp q e.0)
            (λ h. absurd (none_some (sym (below_at cmp is_order q es (below_before cmp is_order q e.0 es h asc.0)) ∙ is)))
            (λ h. absurd (none_some (sym (below_at cmp is_order q es (below_same cmp is_order q e.0 es h asc.0)) ∙ is)))
            (λ h. rw h is)

  -- where the key doesn't matter
  pub every-each : (Is : V → Type 0) (l : List (K × V)) → Each cmp Is l → Every cmp (λ k v. Is v) l
  every-each Is l all = record { every = λ k v is. all.each k v is }

  pub each-every : (Is : V → Type 0) (l : List (K × V)) → Every cmp (λ k v. Is v) l → Each cmp Is l
  each-every Is l all = record { each = λ k v is. all.every k v is }

  -- one that follows from what holds of each
  pub every_so : (Is Js : K → V → Type 0) (l : List (K × V)) → ((k : K) (v : V) → at cmp k l ≡ Some v → Is k v → Js k v) → Every cmp Is l → Every cmp Js l
  every_so Is Js l so all = record { every = λ k v is. so k v is (all.every k v is) }

  -- no entry passes a test
  pub none-any : (p : K × V → Bool) (l : List (K × V)) → list_any p l ≡ false → Every cmp (λ k v. p (k, v) ≡ false) l
  none-any p [] h = every-nil (λ k v. p (k, v) ≡ false)
  none-any p (e ∷ es) h = record {
    every = λ q w is. by_order (cmp q e.0)
        (λ o. let no : None ≡ Some w = rw o at is in absurd (none_some no))
        (λ o. let value : Some e.1 ≡ Some w = rw o at is in let entry : (q, w) ≡ e = ap (λ (x : K). (x, w)) (is_order.exact q e.0 o) ∙ ap (λ (x : V). (e.0, x)) (sym (some_is value)) in ap p entry ∙ (or_parts (p e) (list_any p es) h).0)
        (λ o. let later : at cmp q es ≡ Some w = rw o at is in (none-any p es (or_parts (p e) (list_any p es) h).1).every q w later);
  }

  pub any-none : (p : K × V → Bool) (l : List (K × V)) → Ascends cmp l → Every cmp (λ k v. p (k, v) ≡ false) l → list_any p l ≡ false
  any-none p [] asc all = refl
  any-none p (e ∷ es) asc all = or_from (p e) (list_any p es) (every_first (λ k v. p (k, v) ≡ false) e es all) (any-none p es asc.1 (every_rest (λ k v. p (k, v) ≡ false) e es asc all))

  module _ (Are : V → V → Type 0) where
    pub two-nil : EachTwo cmp Are []
    two-nil = record { two = λ j k v w apart is_v is_w. absurd (none_some is_v) }

    pub two-put : (k : K) (v : V) (l : List (K × V)) → Every cmp (λ q w. q ≢ k → Are v w × Are w v) l → EachTwo cmp Are l → EachTwo cmp Are (put cmp k v l)
    two-put k v l fresh all = record {
      two = λ i j x y apart at_i at_j. at-put_cases i k v x l at_i
          (λ i_k v_x. at-put_cases j k v y l at_j
          (λ j_k v_y. absurd (apart (i_k ∙ sym j_k)))
          (λ j_k was. subst (λ (z : V). Are z y) v_x (fresh.every j y was j_k).0))
          (λ i_k was_i. at-put_cases j k v y l at_j
          (λ j_k v_y. subst (λ (z : V). Are x z) v_y (fresh.every i x was_i i_k).1)
          (λ j_k was. all.two i j x y apart was_i was));
    }

    pub two-without : (k : K) (l : List (K × V)) → Ascends cmp l → EachTwo cmp Are l → EachTwo cmp Are (without cmp k l)
    two-without k l asc all = record { two = λ i j x y apart at_i at_j. all.two i j x y apart (at-without_cases i k x l asc at_i).1 (at-without_cases j k y l asc at_j).1 }

    pub two-change : (k : K) (f : V → V) (l : List (K × V)) → ((v : V) → at cmp k l ≡ Some v → Every cmp (λ q w. q ≢ k → Are (f v) w × Are w (f v)) l) → EachTwo cmp Are l → EachTwo cmp Are (change cmp k f l)
    two-change k f l step all = record {
      two = λ i j x y apart at_i at_j. at-change_cases i k f x l at_i
          (λ i_k v was_k value. at-change_cases j k f y l at_j
          (λ j_k v2 was2 value2. absurd (apart (i_k ∙ sym j_k)))
          (λ j_k was. subst (λ (z : V). Are z y) value ((step v was_k).every j y was j_k).0))
          (λ i_k was_i. at-change_cases j k f y l at_j
          (λ j_k v was_k value. subst (λ (z : V). Are x z) value ((step v was_k).every i x was_i i_k).1)
          (λ j_k was. all.two i j x y apart was_i was));
    }
