-- What holds of two lists of entries as one.
use Rattle.std.proofs.Common.{◌≡◌, Bool, true, false, ◌||◌, List, [], ◌∷◌, Option, None, Some, refl, sym, ap, ◌∙◌, subst, inl, inr}
use Rattle.std.specs.List.{All, list_any}
use Rattle.std.specs.Option.{option_or}
use Rattle.std.specs.declared.cmp.Ordering.{Ordering}
use Rattle.std.specs.declared.cmp.Ordering.TheVariants.{Less, Equal, Greater}
use Rattle.std.proofs.lemmas.List.Elements.{All-head, All-tail}
use Rattle.keyed.specs.Keyed.{IsKeyOrder, at, put, without, Ascends}
use Rattle.keyed.specs.KeyedLaws.{by_order, same, decide, below_at, below_before, at-put, at-put_other, at-without, at-without_other, ascends-put, ascends-without, same_at}
use Rattle.state_scan.specs.Together.{together}

swap : (a b c : Bool) → (a || (b || c)) ≡ (b || (a || c))
swap true true c = refl
swap true false c = refl
swap false true c = refl
swap false false c = refl

join_or : (a b c : Bool) → (a || (b || c)) ≡ ((a || b) || c)
join_or true b c = refl
join_or false b c = refl

module _ {K : Type 0} (cmp : K → K → Ordering) (is_order : IsKeyOrder cmp) {V : Type 0} where
  -- a key that no entry may have isn't there
  pub absent : (P : K → Type 0) (k : K) (l : List (K × V)) → (P k → ⊥) → All (λ e. P e.0) l → at cmp k l ≡ None
  absent P k [] never all = refl
  absent P k (e ∷ es) never all =
      let Q : K × V → Type 0 = λ x. P x.0 in
      by_order (cmp k e.0)
      (λ h. rw h refl)
      (λ h. absurd (never (subst P (sym (is_order.exact k e.0 h)) (All-head Q e es all))))
      (λ h. rw h (absent P k es never (All-tail Q e es all)))

  pub ascends-together : (es others : List (K × V)) → Ascends cmp others → Ascends cmp (together cmp es others)
  ascends-together [] others asc = asc
  ascends-together (e ∷ es) others asc = ascends-put cmp is_order e.0 e.1 (together cmp es others) (ascends-together es others asc)

  pub at-together : (k : K) (es others : List (K × V)) → Ascends cmp es → at cmp k (together cmp es others) ≡ option_or (at cmp k es) (at cmp k others)
  at-together k [] others asc = refl
  at-together k (e ∷ es) others asc = by_order (cmp k e.0)
      (λ h. rw h (at-put_other cmp is_order k e.0 e.1 (together cmp es others) (λ is. differs h is) ∙ at-together k es others asc.1 ∙ ap (λ (o : Option V). option_or o (at cmp k others)) (below_at cmp is_order k es (below_before cmp is_order k e.0 es h asc.0))))
      (λ h. rw h (subst (λ (x : K). at cmp x (put cmp e.0 e.1 (together cmp es others)) ≡ Some e.1) (sym (is_order.exact k e.0 h)) (at-put cmp is_order e.0 e.1 (together cmp es others))))
      (λ h. rw h (at-put_other cmp is_order k e.0 e.1 (together cmp es others) (λ is. differs2 h is) ∙ at-together k es others asc.1))
    where
      differs : cmp k e.0 ≡ Less → k ≡ e.0 → ⊥
      differs h is = let no : Less ≡ Equal = sym h ∙ ap (λ (x : K). cmp k x) (sym is) ∙ same cmp is_order k in absurd (cc)

      differs2 : cmp k e.0 ≡ Greater → k ≡ e.0 → ⊥
      differs2 h is = let no : Greater ≡ Equal = sym h ∙ ap (λ (x : K). cmp k x) (sym is) ∙ same cmp is_order k in absurd (cc)

  or_none : (o : Option V) → option_or o None ≡ o
  or_none None = refl
  or_none (Some v) = refl

  pub put-together_first : (k : K) (v : V) (es others : List (K × V)) → Ascends cmp es → Ascends cmp others → together cmp (put cmp k v es) others ≡ put cmp k v (together cmp es others)
  put-together_first k v es others asc asc2 =
      same_at cmp is_order (together cmp (put cmp k v es) others) (put cmp k v (together cmp es others)) (ascends-together (put cmp k v es) others asc2) (ascends-put cmp is_order k v (together cmp es others) (ascends-together es others asc2))
      (λ q. at-together q (put cmp k v es) others (ascends-put cmp is_order k v es asc) ∙ elim (decide cmp is_order q k) [
        | inl here ↦ subst (λ (x : K). option_or (at cmp x (put cmp k v es)) (at cmp x others) ≡ at cmp x (put cmp k v (together cmp es others))) (sym here) (ap (λ (o : Option V). option_or o (at cmp k others)) (at-put cmp is_order k v es) ∙ sym (at-put cmp is_order k v (together cmp es others)))
        | inr other ↦ ap (λ (o : Option V). option_or o (at cmp q others)) (at-put_other cmp is_order q k v es other) ∙ sym (at-put_other cmp is_order q k v (together cmp es others) other ∙ at-together q es others asc)
      ])

  pub put-together_second : (k : K) (v : V) (es others : List (K × V)) → Ascends cmp es → Ascends cmp others → at cmp k es ≡ None → together cmp es (put cmp k v others) ≡ put cmp k v (together cmp es others)
  put-together_second k v es others asc asc2 none =
      same_at cmp is_order (together cmp es (put cmp k v others)) (put cmp k v (together cmp es others)) (ascends-together es (put cmp k v others) (ascends-put cmp is_order k v others asc2)) (ascends-put cmp is_order k v (together cmp es others) (ascends-together es others asc2))
      (λ q. at-together q es (put cmp k v others) asc ∙ elim (decide cmp is_order q k) [
        | inl here ↦ subst (λ (x : K). option_or (at cmp x es) (at cmp x (put cmp k v others)) ≡ at cmp x (put cmp k v (together cmp es others))) (sym here) (ap (λ (o : Option V). option_or o (at cmp k (put cmp k v others))) none ∙ at-put cmp is_order k v others ∙ sym (at-put cmp is_order k v (together cmp es others)))
        | inr other ↦ ap (λ (o : Option V). option_or (at cmp q es) o) (at-put_other cmp is_order q k v others other) ∙ sym (at-put_other cmp is_order q k v (together cmp es others) other ∙ at-together q es others asc)
      ])

  pub without-together_first : (k : K) (es others : List (K × V)) → Ascends cmp es → Ascends cmp others → at cmp k others ≡ None → together cmp (without cmp k es) others ≡ without cmp k (together cmp es others)
  without-together_first k es others asc asc2 none =
      let all = ascends-together es others asc2 in
      same_at cmp is_order (together cmp (without cmp k es) others) (without cmp k (together cmp es others)) (ascends-together (without cmp k es) others asc2) (ascends-without cmp is_order k (together cmp es others) all)
      (λ q. at-together q (without cmp k es) others (ascends-without cmp is_order k es asc) ∙ elim (decide cmp is_order q k) [
        | inl here ↦ subst (λ (x : K). option_or (at cmp x (without cmp k es)) (at cmp x others) ≡ at cmp x (without cmp k (together cmp es others))) (sym here) (ap (λ (o : Option V). option_or o (at cmp k others)) (at-without cmp is_order k es asc) ∙ none ∙ sym (at-without cmp is_order k (together cmp es others) all))
        | inr other ↦ ap (λ (o : Option V). option_or o (at cmp q others)) (at-without_other cmp is_order q k es asc other) ∙ sym (at-without_other cmp is_order q k (together cmp es others) all other ∙ at-together q es others asc)
      ])

  pub without-together_second : (k : K) (es others : List (K × V)) → Ascends cmp es → Ascends cmp others → at cmp k es ≡ None → together cmp es (without cmp k others) ≡ without cmp k (together cmp es others)
  without-together_second k es others asc asc2 none =
      let all = ascends-together es others asc2 in
      same_at cmp is_order (together cmp es (without cmp k others)) (without cmp k (together cmp es others)) (ascends-together es (without cmp k others) (ascends-without cmp is_order k others asc2)) (ascends-without cmp is_order k (together cmp es others) all)
      (λ q. at-together q es (without cmp k others) asc ∙ elim (decide cmp is_order q k) [
        | inl here ↦ subst (λ (x : K). option_or (at cmp x es) (at cmp x (without cmp k others)) ≡ at cmp x (without cmp k (together cmp es others))) (sym here) (ap (λ (o : Option V). option_or o (at cmp k (without cmp k others))) none ∙ at-without cmp is_order k others asc2 ∙ sym (at-without cmp is_order k (together cmp es others) all))
        | inr other ↦ ap (λ (o : Option V). option_or (at cmp q es) o) (at-without_other cmp is_order q k others asc2 other) ∙ sym (at-without_other cmp is_order q k (together cmp es others) all other ∙ at-together q es others asc)
      ])

  any-put_new : (p : K × V → Bool) (k : K) (v : V) (l : List (K × V)) → at cmp k l ≡ None → list_any p (put cmp k v l) ≡ (p (k, v) || list_any p l)
  any-put_new p k v [] none = refl
  any-put_new p k v (e ∷ es) none = by_order (cmp k e.0)
      (λ h. rw h refl)
      (λ h. let no : Some e.1 ≡ None = rw h at none in absurd (cc))
      (λ h. let rest : at cmp k es ≡ None = rw h at none in rw h (ap (λ (b : Bool). p e || b) (any-put_new p k v es rest) ∙ swap (p e) (p (k, v)) (list_any p es)))

  -- the first entry's key isn't met again
  first_once : (e : K × V) (es : List (K × V)) → Ascends cmp (e ∷ es) → at cmp e.0 es ≡ None
  first_once e es asc = below_at cmp is_order e.0 es asc.0

  pub any-together : (p : K × V → Bool) (es others : List (K × V)) → Ascends cmp es → All (λ e. at cmp e.0 others ≡ None) es → list_any p (together cmp es others) ≡ (list_any p es || list_any p others)
  any-together p [] others asc apart = refl
  any-together p (e ∷ es) others asc apart =
      let P : K × V → Type 0 = λ x. at cmp x.0 others ≡ None in
      let none : at cmp e.0 (together cmp es others) ≡ None = at-together e.0 es others asc.1 ∙ ap (λ (o : Option V). option_or o (at cmp e.0 others)) (first_once e es asc) ∙ All-head P e es apart in
      any-put_new p e.0 e.1 (together cmp es others) none ∙ ap (λ (b : Bool). p (e.0, e.1) || b) (any-together p es others asc.1 (All-tail P e es apart)) ∙ join_or (p (e.0, e.1)) (list_any p es) (list_any p others)
