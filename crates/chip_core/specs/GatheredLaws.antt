-- What changes of values that have names do to the entries that are gathered by name.
use Rattle.std.proofs.Common.{◌≡◌, ◌≢◌, List, [], ◌∷◌, None, Some, length, refl, sym, ap, ◌∙◌, subst, arith, inl, inr}
use Rattle.std.specs.declared.cmp.Ordering.{Ordering}
use Rattle.std.specs.declared.cmp.Ordering.TheVariants.{Greater}
use Rattle.keyed.specs.Keyed.{IsKeyOrder, at, put, without, Ascends, Each, with_values}
use Rattle.keyed.specs.KeyedLaws.{by_order, decide, same, below_at, below_before, below_same, without-put, at-put, at-put_other, ascends-put, put_comm, without_comm, put_over, length-put_new}
use Rattle.keyed.specs.Named.{key_of, AreDistinct, gathered}
use Rattle.keyed.specs.NamedLaws.{none_head, none_rest, none_at, head_found, head_passed}
use Rattle.keyed.specs.EachLaws.{each_head, each_rest}

module _ {K V N W : Type 0} (cmp : K → K → Ordering) (order : IsKeyOrder cmp) (ncmp : N → N → Ordering) (name_order : IsKeyOrder ncmp) (entry : V → N × W) where
  -- the name of a value
  abbrev name : V → N
  name v = (entry v).0

  pub ascends-gathered : (l : List (K × V)) → Ascends ncmp (gathered ncmp entry l)
  ascends-gathered [] = tt
  ascends-gathered (e ∷ es) = ascends-put ncmp name_order (entry e.1).0 (entry e.1).1 (gathered ncmp entry es) (ascends-gathered es)

  -- a name that no value has is no key
  pub at-gathered_none : (n : N) (l : List (K × V)) → key_of ncmp name n l ≡ None → at ncmp n (gathered ncmp entry l) ≡ None
  at-gathered_none n [] none = refl
  at-gathered_none n (e ∷ es) none =
      at-put_other ncmp name_order n (entry e.1).0 (entry e.1).1 (gathered ncmp entry es) (λ s. none_head cmp order ncmp name_order name n e es none (sym s))
      ∙ at-gathered_none n es (none_rest cmp order ncmp name_order name n e es none)

  -- and a name that is no key, no value has
  pub key_of-gathered_none : (n : N) (l : List (K × V)) → at ncmp n (gathered ncmp entry l) ≡ None → key_of ncmp name n l ≡ None
  key_of-gathered_none n [] none = refl
  key_of-gathered_none n (e ∷ es) none = elim (decide ncmp name_order n (name e.1)) [
    | inl here ↦
        let found : at ncmp n (gathered ncmp entry (e ∷ es)) ≡ Some (entry e.1).1 = subst (λ (x : N). at ncmp x (gathered ncmp entry (e ∷ es)) ≡ Some (entry e.1).1) (sym here) (at-put ncmp name_order (entry e.1).0 (entry e.1).1 (gathered ncmp entry es)) in
        let no : Some (entry e.1).1 ≡ None = sym found ∙ none in absurd (cc)
    | inr other ↦
        head_passed cmp order ncmp name_order name n e es (λ s. other (sym s))
        ∙ key_of-gathered_none n es (sym (at-put_other ncmp name_order n (entry e.1).0 (entry e.1).1 (gathered ncmp entry es) other) ∙ none)
  ]

  -- the value under a key is gathered under its name
  pub at-gathered : (k : K) (v : V) (l : List (K × V)) → AreDistinct ncmp name l → at cmp k l ≡ Some v → at ncmp (name v) (gathered ncmp entry l) ≡ Some (entry v).1
  at-gathered k v [] distinct is = absurd (cc)
  at-gathered k v (e ∷ es) distinct is = by_order (cmp k e.0)
      (λ h. let no : None ≡ Some v = rw h at is in absurd (cc))
      (λ h. let here : Some e.1 ≡ Some v = rw h at is in let value : e.1 ≡ v = cc in subst (λ (x : V). at ncmp (name x) (gathered ncmp entry (e ∷ es)) ≡ Some (entry x).1) value (at-put ncmp name_order (entry e.1).0 (entry e.1).1 (gathered ncmp entry es)))
      (λ h.
      let later : at cmp k es ≡ Some v = rw h at is in
      let other : name v ≢ name e.1 = none_at cmp order ncmp name_order name (name e.1) k v es distinct.0 later in
      at-put_other ncmp name_order (name v) (entry e.1).0 (entry e.1).1 (gathered ncmp entry es) other ∙ at-gathered k v es distinct.1 later)

  -- a value more
  pub gathered-put : (k : K) (v : V) (l : List (K × V)) → at cmp k l ≡ None → key_of ncmp name (name v) l ≡ None → gathered ncmp entry (put cmp k v l) ≡ put ncmp (name v) (entry v).1 (gathered ncmp entry l)
  gathered-put k v [] free absent = refl
  gathered-put k v (e ∷ es) free absent = by_order (cmp k e.0)
      (λ h. rw h refl)
      (λ h. let no : Some e.1 ≡ None = rw h at free in absurd (cc))
      (λ h.
      let free2 : at cmp k es ≡ None = rw h at free in
      let other = none_head cmp order ncmp name_order name (name v) e es absent in
      rw h (ap (put ncmp (entry e.1).0 (entry e.1).1) (gathered-put k v es free2 (none_rest cmp order ncmp name_order name (name v) e es absent))
      ∙ put_comm ncmp name_order (entry e.1).0 (name v) (entry e.1).1 (entry v).1 (gathered ncmp entry es) (ascends-gathered es) other))

  -- another value of the same name
  pub gathered-set : (k : K) (old v : V) (l : List (K × V)) → at cmp k l ≡ Some old → name v ≡ name old → AreDistinct ncmp name l → gathered ncmp entry (put cmp k v l) ≡ put ncmp (name v) (entry v).1 (gathered ncmp entry l)
  gathered-set k old v [] is names distinct = absurd (cc)
  gathered-set k old v (e ∷ es) is names distinct = by_order (cmp k e.0)
      (λ h. let no : None ≡ Some old = rw h at is in absurd (cc))
      (λ h.
      let here : Some e.1 ≡ Some old = rw h at is in
      let value : old ≡ e.1 = cc in
      let renamed : name v ≡ name e.1 = names ∙ ap name value in
      rw h (sym (subst (λ (n : N). put ncmp (name v) (entry v).1 (put ncmp n (entry e.1).1 (gathered ncmp entry es)) ≡ put ncmp (name v) (entry v).1 (gathered ncmp entry es)) renamed (put_over ncmp name_order (name v) (entry v).1 (entry e.1).1 (gathered ncmp entry es)))))
      (λ h.
      let later : at cmp k es ≡ Some old = rw h at is in
      let other : name old ≢ name e.1 = none_at cmp order ncmp name_order name (name e.1) k old es distinct.0 later in
      let apart : name e.1 ≢ name v = λ s. other (sym names ∙ sym s) in
      rw h (ap (put ncmp (entry e.1).0 (entry e.1).1) (gathered-set k old v es later names distinct.1)
      ∙ put_comm ncmp name_order (entry e.1).0 (name v) (entry e.1).1 (entry v).1 (gathered ncmp entry es) (ascends-gathered es) apart))

  -- a value less
  pub gathered-without : (k : K) (v : V) (l : List (K × V)) → at cmp k l ≡ Some v → AreDistinct ncmp name l → gathered ncmp entry (without cmp k l) ≡ without ncmp (name v) (gathered ncmp entry l)
  gathered-without k v [] is distinct = absurd (cc)
  gathered-without k v (e ∷ es) is distinct = by_order (cmp k e.0)
      (λ h. let no : None ≡ Some v = rw h at is in absurd (cc))
      (λ h.
      let here : Some e.1 ≡ Some v = rw h at is in
      let value : e.1 ≡ v = cc in
      rw h (sym (subst (λ (x : V). without ncmp (name x) (put ncmp (entry e.1).0 (entry e.1).1 (gathered ncmp entry es)) ≡ gathered ncmp entry es) value (without-put ncmp name_order (entry e.1).0 (entry e.1).1 (gathered ncmp entry es) (at-gathered_none (name e.1) es distinct.0)))))
      (λ h.
      let later : at cmp k es ≡ Some v = rw h at is in
      let other : name v ≢ name e.1 = none_at cmp order ncmp name_order name (name e.1) k v es distinct.0 later in
      rw h (ap (put ncmp (entry e.1).0 (entry e.1).1) (gathered-without k v es later distinct.1)
      ∙ sym (without_comm ncmp name_order (name v) (entry e.1).0 (entry e.1).1 (gathered ncmp entry es) (ascends-gathered es) other)))

  pub length-gathered_distinct : (l : List (K × V)) → AreDistinct ncmp name l → length (gathered ncmp entry l) ≡ length l
  length-gathered_distinct [] distinct = refl
  length-gathered_distinct (e ∷ es) distinct = omega (arith, length-put_new ncmp name_order (entry e.1).0 (entry e.1).1 (gathered ncmp entry es) (at-gathered_none (name e.1) es distinct.0), length-gathered_distinct es distinct.1)

  -- what is gathered under a name is the value of that name
  pub record IsFound (n : N) (w : W) (l : List (K × V)) : Type 0 where
    pub key : K
    pub value : V
    pub found : key_of ncmp name n l ≡ Some key
    pub there : at cmp key l ≡ Some value
    pub named : (entry value).0 ≡ n
    pub holds : (entry value).1 ≡ w

  above_head : (e : K × V) (es : List (K × V)) (k : K) (v : V) → Ascends cmp (e ∷ es) → at cmp k es ≡ Some v → cmp k e.0 ≡ Greater
  above_head e es k v asc is = by_order (cmp k e.0)
      (λ h. let no : None ≡ Some v = sym (below_at cmp order k es (below_before cmp order k e.0 es h asc.0)) ∙ is in absurd (cc))
      (λ h. let no : None ≡ Some v = sym (below_at cmp order k es (below_same cmp order k e.0 es h asc.0)) ∙ is in absurd (cc))
      (λ h. h)

  pub found-gathered : (n : N) (w : W) (l : List (K × V)) → Ascends cmp l → at ncmp n (gathered ncmp entry l) ≡ Some w → IsFound n w l
  found-gathered n w [] asc is = absurd (cc)
  found-gathered n w (e ∷ es) asc is = elim (decide ncmp name_order n (name e.1)) [
    | inl here ↦
        let found : at ncmp n (gathered ncmp entry (e ∷ es)) ≡ Some (entry e.1).1 = subst (λ (x : N). at ncmp x (gathered ncmp entry (e ∷ es)) ≡ Some (entry e.1).1) (sym here) (at-put ncmp name_order (entry e.1).0 (entry e.1).1 (gathered ncmp entry es)) in
        let both : Some (entry e.1).1 ≡ Some w = sym found ∙ is in
        record {
          key = e.0;
          value = e.1;
          found = head_found cmp order ncmp name_order name n e es (sym here);
          there = rw (same cmp order e.0) refl;
          named = sym here;
          holds = cc;
        }
    | inr other ↦
        let later = found-gathered n w es asc.1 (sym (at-put_other ncmp name_order n (entry e.1).0 (entry e.1).1 (gathered ncmp entry es) other) ∙ is) in
        let above : cmp later.key e.0 ≡ Greater = above_head e es later.key later.value asc later.there in
        record {
          key = later.key;
          value = later.value;
          found = head_passed cmp order ncmp name_order name n e es (λ s. other (sym s)) ∙ later.found;
          there = rw above later.there;
          named = later.named;
          holds = later.holds;
        }
  ]

-- other entries of the same values
module _ {K V : Type 0} (cmp : K → K → Ordering) (order : IsKeyOrder cmp) where
  pub gathered-same : {N W : Type 0} (ncmp : N → N → Ordering) (f g : V → N × W) (l : List (K × V)) → Ascends cmp l → Each cmp (λ v. f v ≡ g v) l → gathered ncmp f l ≡ gathered ncmp g l
  gathered-same {N} {W} ncmp f g [] asc all = refl
  gathered-same {N} {W} ncmp f g (e ∷ es) asc all =
      ap (λ (x : N × W). put ncmp x.0 x.1 (gathered ncmp f es)) (each_head cmp order (λ v. f v ≡ g v) e es all)
      ∙ ap (put ncmp (g e.1).0 (g e.1).1) (gathered-same ncmp f g es asc.1 (each_rest cmp order (λ v. f v ≡ g v) e es asc all))

  pub with_values-same : {W : Type 0} (f g : V → W) (l : List (K × V)) → Ascends cmp l → Each cmp (λ v. f v ≡ g v) l → with_values f l ≡ with_values g l
  with_values-same {W} f g [] asc all = refl
  with_values-same {W} f g (e ∷ es) asc all =
      ap (λ (x : W). (e.0, x) ∷ with_values f es) (each_head cmp order (λ v. f v ≡ g v) e es all)
      ∙ ap (λ r. (e.0, g e.1) ∷ r) (with_values-same f g es asc.1 (each_rest cmp order (λ v. f v ≡ g v) e es asc all))

  -- distinct under one name are distinct under another that tells them apart
  pub distinct-renamed : {N M : Type 0} (ncmp : N → N → Ordering) (n_order : IsKeyOrder ncmp) (mcmp : M → M → Ordering) (m_order : IsKeyOrder mcmp) (f : V → N) (g : V → M) (l : List (K × V)) → Ascends cmp l → ((k j : K) (v w : V) → at cmp k l ≡ Some v → at cmp j l ≡ Some w → g v ≡ g w → f v ≡ f w) → AreDistinct ncmp f l → AreDistinct mcmp g l
  distinct-renamed ncmp n_order mcmp m_order f g [] asc tells distinct = tt
  distinct-renamed ncmp n_order mcmp m_order f g (e ∷ es) asc tells distinct = (none_other es asc.1 (λ k w is. is) distinct.0, distinct-renamed ncmp n_order mcmp m_order f g es asc.1 (λ k j v w a b. tells k j v w (later k v a) (later j w b)) distinct.1)
    where
      later : (k : K) (v : V) → at cmp k es ≡ Some v → at cmp k (e ∷ es) ≡ Some v
      later k v is = by_order (cmp k e.0)
          (λ h. let no : None ≡ Some v = sym (below_at cmp order k es (below_before cmp order k e.0 es h asc.0)) ∙ is in absurd (cc))
          (λ h. let no : None ≡ Some v = sym (below_at cmp order k es (below_same cmp order k e.0 es h asc.0)) ∙ is in absurd (cc))
          (λ h. rw h is)

      first : at cmp e.0 (e ∷ es) ≡ Some e.1
      first = rw (same cmp order e.0) refl

      none_other : (xs : List (K × V)) → Ascends cmp xs → ((k : K) (w : V) → at cmp k xs ≡ Some w → at cmp k es ≡ Some w) → key_of ncmp f (f e.1) xs ≡ None → key_of mcmp g (g e.1) xs ≡ None
      none_other [] sorted within none = refl
      none_other (x ∷ xs) sorted within none =
          let here : at cmp x.0 (x ∷ xs) ≡ Some x.1 = rw (same cmp order x.0) refl in
          let other : g x.1 ≢ g e.1 = λ s. none_head cmp order ncmp n_order f (f e.1) x xs none (tells x.0 e.0 x.1 e.1 (later x.0 x.1 (within x.0 x.1 here)) first s) in
          head_passed cmp order mcmp m_order g (g e.1) x xs other
          ∙ none_other xs sorted.1 (λ k w is. within k w (by_order (cmp k x.0)
          (λ h. let no : None ≡ Some w = sym (below_at cmp order k xs (below_before cmp order k x.0 xs h sorted.0)) ∙ is in absurd (cc))
          (λ h. let no : None ≡ Some w = sym (below_at cmp order k xs (below_same cmp order k x.0 xs h sorted.0)) ∙ is in absurd (cc))
          (λ h. rw h is))) (none_rest cmp order ncmp n_order f (f e.1) x xs none)
