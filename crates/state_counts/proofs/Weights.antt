-- What changes between two maps do to a sum over their entries.
use Rattle.std.proofs.Common.{◌≡◌, ◌≢◌, ℕ, ◌+◌, ◌==◌, Option, None, Some, List, [], ◌∷◌, refl, sym, ap, ◌∙◌, subst, inl, inr, arith}
use Rattle.std.specs.Option.{option_map}
use Rattle.std.specs.Ordering.{nat_cmp}
use Rattle.keyed.specs.Cases.{by_bool, some_is}
use Rattle.keyed.specs.Keyed.{Ascends, at, without}
use Rattle.keyed.specs.KeyedLaws.{ascends-without, at-without, at-without_other, below_at, below_before, by_order, decide, same, same_at}
use Rattle.keyed.specs.KeyOrders.{nat_order}
use Rattle.node_core.specs.Node.{NodeView}
use Rattle.node_map.specs.TreeNode.{Entries}
use Rattle.state_delta.specs.Change.{ChangeView, between, change_of}
use Rattle.state_delta.specs.Delta.{IsDelta}

module _ {T : Type 0} where
  -- what a change says of the nodes under its key, and none where they are the same
  abbrev pub IsExplained : Option (ChangeView T) → Option (NodeView T) → Option (NodeView T) → Type 0
  IsExplained None old new = old ≡ new
  IsExplained (Some c) old new = (c.old ≡ option_map (λ n. n.value) old) × (c.new ≡ option_map (λ n. n.value) new)

  between_explained : (m n : NodeView T) (c : ChangeView T) → between m n ≡ Some c → (c.old ≡ Some m.value) × (c.new ≡ Some n.value)
  between_explained m n c is = by_bool (m.born == n.born)
      (λ same_born. by_bool (m.generation == n.generation)
      (λ same_made. let no : None ≡ Some c = rw same_made at (rw same_born at is) in absurd (cc))
      (λ other. let some = rw other at (rw same_born at is) in let e = some_is some in (sym (ap (λ (x : ChangeView T). x.old) e), sym (ap (λ (x : ChangeView T). x.new) e))))
      (λ other. let some = rw other at is in let e = some_is some in (sym (ap (λ (x : ChangeView T). x.old) e), sym (ap (λ (x : ChangeView T). x.new) e)))

  change_explained : (old new : Option (NodeView T)) (c : ChangeView T) → change_of old new ≡ Some c → IsExplained (Some c) old new
  change_explained None None c is = absurd (cc)
  change_explained None (Some n) c is = let e = some_is is in (sym (ap (λ (x : ChangeView T). x.old) e), sym (ap (λ (x : ChangeView T). x.new) e))
  change_explained (Some m) None c is = let e = some_is is in (sym (ap (λ (x : ChangeView T). x.old) e), sym (ap (λ (x : ChangeView T). x.new) e))
  change_explained (Some m) (Some n) c is = between_explained m n c is

  -- the changes say of each key what stands there in both
  abbrev pub Explain : Entries T → Entries T → List (ℕ × ChangeView T) → Type 0
  Explain old new changes = (key : ℕ) → IsExplained (at nat_cmp key changes) (at nat_cmp key old) (at nat_cmp key new)

  pub delta_explains : (old new : Entries T) (changes : List (ℕ × ChangeView T)) → IsDelta old new changes → ((key : ℕ) → at nat_cmp key changes ≡ None → at nat_cmp key old ≡ at nat_cmp key new) → Explain old new changes
  delta_explains old new changes is unlisted key = by (at nat_cmp key changes) refl
    where
      by : (o : Option (ChangeView T)) → at nat_cmp key changes ≡ o → IsExplained o (at nat_cmp key old) (at nat_cmp key new)
      by None none = unlisted key none
      by (Some c) some = change_explained (at nat_cmp key old) (at nat_cmp key new) c (sym (is.each key) ∙ some)

  -- past the first change
  at_rest : (key : ℕ) (c : ℕ × ChangeView T) (cs : List (ℕ × ChangeView T)) → key ≢ c.0 → Ascends nat_cmp (c ∷ cs) → at nat_cmp key (c ∷ cs) ≡ at nat_cmp key cs
  at_rest key c cs other asc = by_order (nat_cmp key c.0)
      (λ h. rw h (sym (below_at nat_cmp nat_order key cs (below_before nat_cmp nat_order key c.0 cs h asc.0))))
      (λ h. absurd (other (nat_order.exact key c.0 h)))
      (λ h. rw h refl)

  explained_as : {o p : Option (ChangeView T)} {m q n r : Option (NodeView T)} → o ≡ p → m ≡ q → n ≡ r → IsExplained p q r → IsExplained o m n
  explained_as first second third is = rw first (rw second (rw third is))

  none_explained : {o : Option (ChangeView T)} {m n : Option (NodeView T)} → o ≡ None → m ≡ None → n ≡ None → IsExplained o m n
  none_explained first second third = rw first (second ∙ sym third)

  rest_explains : (old new : Entries T) (c : ℕ × ChangeView T) (cs : List (ℕ × ChangeView T)) → Ascends nat_cmp old → Ascends nat_cmp new → Ascends nat_cmp (c ∷ cs) → Explain old new (c ∷ cs) → Explain (without nat_cmp c.0 old) (without nat_cmp c.0 new) cs
  rest_explains old new c cs old_asc new_asc asc all key = elim (decide nat_cmp nat_order key c.0) [
    | inl here ↦ subst (λ (k : ℕ). IsExplained (at nat_cmp k cs) (at nat_cmp k (without nat_cmp c.0 old)) (at nat_cmp k (without nat_cmp c.0 new))) (sym here)
        (none_explained (below_at nat_cmp nat_order c.0 cs asc.0) (at-without nat_cmp nat_order c.0 old old_asc) (at-without nat_cmp nat_order c.0 new new_asc))
    | inr other ↦ explained_as (sym (at_rest key c cs other asc)) (at-without_other nat_cmp nat_order key c.0 old old_asc other) (at-without_other nat_cmp nat_order key c.0 new new_asc other) (all key)
  ]

  first_explained : (old new : Entries T) (c : ℕ × ChangeView T) (cs : List (ℕ × ChangeView T)) → Explain old new (c ∷ cs) → IsExplained (Some c.1) (at nat_cmp c.0 old) (at nat_cmp c.0 new)
  first_explained old new c cs all =
      let first : at nat_cmp c.0 (c ∷ cs) ≡ Some c.1 = rw (same nat_cmp nat_order c.0) refl in
      subst (λ (o : Option (ChangeView T)). IsExplained o (at nat_cmp c.0 old) (at nat_cmp c.0 new)) first (all c.0)

  module _ (w : T → ℕ) where
    abbrev pub weight_of : Option T → ℕ
    weight_of None = 0
    weight_of (Some v) = w v

    abbrev pub weight : Entries T → ℕ
    weight [] = 0
    weight (e ∷ es) = w e.1.value + weight es

    -- what the changes took away, and what they brought
    abbrev pub lost : List (ℕ × ChangeView T) → ℕ
    lost [] = 0
    lost (c ∷ cs) = weight_of c.1.old + lost cs

    abbrev pub gained : List (ℕ × ChangeView T) → ℕ
    gained [] = 0
    gained (c ∷ cs) = weight_of c.1.new + gained cs

    weight-without : (k : ℕ) (es : Entries T) → weight (without nat_cmp k es) + weight_of (option_map (λ n. n.value) (at nat_cmp k es)) ≡ weight es
    weight-without k [] = refl
    weight-without k (e ∷ es) = by_order (nat_cmp k e.0)
        (λ h. rw h (omega arith))
        (λ h. rw h (omega arith))
        (λ h. rw h (omega (arith, weight-without k es)))

    sums : (a b c d e f g h i j : ℕ) → a + b ≡ c → d + e ≡ f → a + g ≡ d + h → i ≡ b → j ≡ e → c + (j + g) ≡ f + (i + h)
    sums a b c d e f g h i j one two three four five = omega (arith, one, two, three, four, five)

    pub kept : (old new : Entries T) (changes : List (ℕ × ChangeView T)) → Ascends nat_cmp old → Ascends nat_cmp new → Ascends nat_cmp changes → Explain old new changes → weight old + gained changes ≡ weight new + lost changes
    kept old new [] old_asc new_asc asc all = ap (λ (es : Entries T). weight es + 0) (same_at nat_cmp nat_order old new old_asc new_asc all)
    kept old new (c ∷ cs) old_asc new_asc asc all =
        let first = first_explained old new c cs all in
        sums (weight (without nat_cmp c.0 old)) (weight_of (option_map (λ n. n.value) (at nat_cmp c.0 old))) (weight old) (weight (without nat_cmp c.0 new)) (weight_of (option_map (λ n. n.value) (at nat_cmp c.0 new))) (weight new) (gained cs) (lost cs) (weight_of c.1.old) (weight_of c.1.new)
        (weight-without c.0 old)
        (weight-without c.0 new)
        (kept (without nat_cmp c.0 old) (without nat_cmp c.0 new) cs (ascends-without nat_cmp nat_order c.0 old old_asc) (ascends-without nat_cmp nat_order c.0 new new_asc) asc.1 (rest_explains old new c cs old_asc new_asc asc all))
        (ap weight_of first.0)
        (ap weight_of first.1)
