-- The entries that pass a test.
use Rattle.std.proofs.Common.{◌≡◌, Bool, true, false, List, [], ◌∷◌, None, Some, filter, refl, sym, ap, ◌∙◌, inl, inr}
use Rattle.std.specs.Ordering.{match_ordering}
use Rattle.std.specs.declared.cmp.Ordering.{Ordering}
use Rattle.std.proofs.lemmas.Bool.{both_ways, cases_Bool}
use Rattle.keyed.specs.Cases.{by_bool, none_some}
use Rattle.keyed.specs.Every.{Every}
use Rattle.keyed.specs.Keyed.{IsKeyOrder, at, Ascends, IsBelow}
use Rattle.keyed.specs.KeyedLaws.{by_order, below_at, below_before, below_same}

-- a test of entries
module _ {K V : Type 0} (cmp : K → K → Ordering) (is_order : IsKeyOrder cmp) (p : K × V → Bool) where
  below-filter_entries : (k : K) (l : List (K × V)) → IsBelow cmp k l → Ascends cmp l → IsBelow cmp k (filter p l)
  below-filter_entries k [] below asc = tt
  below-filter_entries k (e ∷ es) below asc = elim (cases_Bool (p e)) [
    | inl is ↦ rw is below
    | inr is ↦ rw is (below-filter_entries k es (below_before cmp is_order k e.0 es below asc.0) asc.1)
  ]

  pub ascends-filter_entries : (l : List (K × V)) → Ascends cmp l → Ascends cmp (filter p l)
  ascends-filter_entries [] asc = tt
  ascends-filter_entries (e ∷ es) asc = elim (cases_Bool (p e)) [
    | inl is ↦ rw is (below-filter_entries e.0 es asc.0 asc.1, ascends-filter_entries es asc.1)
    | inr is ↦ rw is (ascends-filter_entries es asc.1)
  ]

  at_rest : (e : K × V) (es : List (K × V)) (q : K) (w : V) → Ascends cmp (e ∷ es) → at cmp q es ≡ Some w → at cmp q (e ∷ es) ≡ Some w
  at_rest e es q w asc is = by_order (cmp q e.0)
      (λ h. absurd (none_some (sym (below_at cmp is_order q es (below_before cmp is_order q e.0 es h asc.0)) ∙ is)))
      (λ h. absurd (none_some (sym (below_at cmp is_order q es (below_same cmp is_order q e.0 es h asc.0)) ∙ is)))
      (λ h. rw h is)

  pub at-filter_entries : (q : K) (v : V) (l : List (K × V)) → Ascends cmp l → at cmp q (filter p l) ≡ Some v → at cmp q l ≡ Some v
  at-filter_entries q v [] asc is = is
  at-filter_entries q v (e ∷ es) asc is = elim (cases_Bool (p e)) [
    | inl passes ↦ let kept : at cmp q (e ∷ filter p es) ≡ Some v = rw passes at is in by_order (cmp q e.0)
        (λ h. let no : None ≡ Some v = rw h at kept in absurd (none_some no))
        (λ h. let here : Some e.1 ≡ Some v = rw h at kept in rw h here)
        (λ h. let later : at cmp q (filter p es) ≡ Some v = rw h at kept in rw h (at-filter_entries q v es asc.1 later))
    | inr fails ↦ let rest : at cmp q (filter p es) ≡ Some v = rw fails at is in at_rest e es q v asc (at-filter_entries q v es asc.1 rest)
  ]

  pub every-filter : (Is : K → V → Type 0) (l : List (K × V)) → Ascends cmp l → Every cmp Is l → Every cmp Is (filter p l)
  every-filter Is l asc all = record { every = λ q w is. all.every q w (at-filter_entries q w l asc is) }

-- a test of keys: what passes stays as it was, and nothing else is there
module _ {K V : Type 0} (cmp : K → K → Ordering) (is_order : IsKeyOrder cmp) (p : K → Bool) where
  pub ascends-filter : (l : List (K × V)) → Ascends cmp l → Ascends cmp (filter (λ e. p e.0) l)
  ascends-filter = ascends-filter_entries cmp is_order (λ e. p e.0)

  pub at-filter_in : (k : K) (l : List (K × V)) → Ascends cmp l → p k ≡ true → at cmp k (filter (λ e. p e.0) l) ≡ at cmp k l
  at-filter_in k [] asc is = refl
  at-filter_in k (e ∷ es) asc is = by_bool (p e.0)
      (λ h. rw h (ap (λ r. match_ordering (cmp k e.0) None (Some e.1) r) (at-filter_in k es asc.1 is)))
      (λ h. rw h (by_order (cmp k e.0)
      (λ o. rw o (at-filter_in k es asc.1 is ∙ below_at cmp is_order k es (below_before cmp is_order k e.0 es o asc.0)))
      (λ o. absurd (both_ways (p e.0) h (ap p (sym (is_order.exact k e.0 o)) ∙ is)))
      (λ o. rw o (at-filter_in k es asc.1 is))))

  pub at-filter_out : (k : K) (l : List (K × V)) → p k ≡ false → at cmp k (filter (λ e. p e.0) l) ≡ None
  at-filter_out k [] is = refl
  at-filter_out k (e ∷ es) is = by_bool (p e.0)
      (λ h. rw h (by_order (cmp k e.0)
      (λ o. rw o refl)
      (λ o. absurd (both_ways (p k) is (ap p (is_order.exact k e.0 o) ∙ h)))
      (λ o. rw o (at-filter_out k es is))))
      (λ h. rw h (at-filter_out k es is))
