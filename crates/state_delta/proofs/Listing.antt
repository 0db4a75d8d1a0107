-- The list of all changes.
use Rattle.std.proofs.Common.{◌≡◌, ℕ, ◌<◌, List, [], ◌∷◌, Option, None, Some, refl, sym, ap, ◌∙◌, subst, arith, inl, inr}
use Rattle.std.specs.Ordering.{nat_cmp}
use Rattle.std.specs.declared.cmp.Ordering.TheVariants.{Greater}
use Rattle.std.proofs.lemmas.List.Elements.{All-nil, All-cons, All-head, All-tail, All-weaker}
use Rattle.std.proofs.lemmas.Option.{none-some}
use Rattle.keyed.specs.Keyed.{at, put, Ascends}
use Rattle.keyed.specs.KeyedLaws.{by_order, decide, at-put, at-put_other, ascends-put}
use Rattle.keyed.specs.KeyOrders.{nat_order, nat_cmp-exact}
use Rattle.keyed.specs.Ranges.{head_of}
use Rattle.node_map.specs.Steps.{later}
use Rattle.node_map.specs.TreeNode.{Entries}
use Rattle.node_map.proofs.Order.{Above, cmp-same, at_above, above_all, below_first, lt_from_cmp}
use Rattle.state_delta.specs.Change.{ChangeView}
use Rattle.state_delta.specs.Delta.{IsDelta, IsNext, change_at, joined, with_some, given, delta}
use Rattle.state_delta.proofs.Next.{next_same, next_unique, next_entry}

module _ {T : Type 0} where
  pub ascends_joined : (xs ys : Entries T) → Ascends nat_cmp ys → Ascends nat_cmp (joined xs ys)
  ascends_joined [] ys ascends = ascends
  ascends_joined (e ∷ es) ys ascends = ascends-put nat_cmp nat_order e.0 e.1 (joined es ys) (ascends_joined es ys ascends)

  -- a key that neither list has
  pub joined_none : (k : ℕ) (xs ys : Entries T) → at nat_cmp k (joined xs ys) ≡ None → (at nat_cmp k xs ≡ None) × (at nat_cmp k ys ≡ None)
  joined_none k [] ys none = (refl, none)
  joined_none k (e ∷ es) ys none = elim (decide nat_cmp nat_order k e.0) [
    | inl same ↦ absurd (none-some e.1 (sym none ∙ ap (λ z. at nat_cmp z (put nat_cmp e.0 e.1 (joined es ys))) same ∙ at-put nat_cmp nat_order e.0 e.1 (joined es ys)))
    | inr apart ↦
        let further = joined_none k es ys (sym (at-put_other nat_cmp nat_order k e.0 e.1 (joined es ys) apart) ∙ none) in
        let here : at nat_cmp k (e ∷ es) ≡ None = by_order (nat_cmp k e.0) (λ h. rw h refl) (λ h. absurd (apart (nat_cmp-exact k e.0 h))) (λ h. rw h further.0) in
        (here, further.1)
  ]

-- a value that is there where the look-up finds something
abbrev pub where_found : {V W : Type 0} → Option V → Option W → Option W
where_found None w = None
where_found (Some v) w = w

module _ {W : Type 0} where
  above_some : (j k : ℕ) (w : Option W) (rest : List (ℕ × W)) → j < k → Above j rest → Above j (with_some k w rest)
  above_some j k None rest lt a = a
  above_some j k (Some w) rest lt a = All-cons (λ (x : ℕ × W). j < x.0) (k, w) rest lt a

  ascends_some : (k : ℕ) (w : Option W) (rest : List (ℕ × W)) → Above k rest → Ascends nat_cmp rest → Ascends nat_cmp (with_some k w rest)
  ascends_some k None rest a ascends = ascends
  ascends_some k (Some w) rest a ascends = (below_first k rest a, ascends)

  at_some_here : (k : ℕ) (w : Option W) (rest : List (ℕ × W)) → Above k rest → at nat_cmp k (with_some k w rest) ≡ w
  at_some_here k None rest a = at_above k rest a
  at_some_here k (Some w) rest a = rw (cmp-same k) refl

  at_some_later : (k j : ℕ) (w : Option W) (rest : List (ℕ × W)) → nat_cmp k j ≡ Greater → at nat_cmp k (with_some j w rest) ≡ at nat_cmp k rest
  at_some_later k j None rest h = refl
  at_some_later k j (Some w) rest h = rw h refl

module _ {V W : Type 0} (f : ℕ → Option W) where
  above_given : (j : ℕ) (es : List (ℕ × V)) → Above j es → Above j (given f es)
  above_given j [] a = All-nil (λ (x : ℕ × W). j < x.0)
  above_given j (e ∷ es) a = above_some j e.0 (f e.0) (given f es) (All-head (λ (x : ℕ × V). j < x.0) e es a) (above_given j es (All-tail (λ (x : ℕ × V). j < x.0) e es a))

  pub ascends_given : (es : List (ℕ × V)) → Ascends nat_cmp es → Ascends nat_cmp (given f es)
  ascends_given [] ascends = tt
  ascends_given (e ∷ es) ascends = ascends_some e.0 (f e.0) (given f es) (above_given e.0 es (above_all e.0 es ascends.0 ascends.1)) (ascends_given es ascends.1)

  -- what the list has under a key
  pub at-given : (k : ℕ) (es : List (ℕ × V)) → Ascends nat_cmp es → at nat_cmp k (given f es) ≡ where_found (at nat_cmp k es) (f k)
  at-given k [] ascends = refl
  at-given k (e ∷ es) ascends =
      let above = above_all e.0 es ascends.0 ascends.1 in
      by_order (nat_cmp k e.0)
      (λ h.
      let lt : k < e.0 = lt_from_cmp k e.0 h in
      let all : Above k (e ∷ es) = All-cons (λ (x : ℕ × V). k < x.0) e es lt (All-weaker (λ (x : ℕ × V). e.0 < x.0) (λ (x : ℕ × V). k < x.0) (λ x past. omega arith) es above) in
      at_above k (given f (e ∷ es)) (above_given k (e ∷ es) all) ∙ sym (ap (λ o. where_found o (f k)) (at_above k (e ∷ es) all)))
      (λ h.
      let same : k ≡ e.0 = nat_cmp-exact k e.0 h in
      let here : at nat_cmp e.0 (given f (e ∷ es)) ≡ f e.0 = at_some_here e.0 (f e.0) (given f es) (above_given e.0 es above) in
      rw h (subst (λ (z : ℕ). at nat_cmp z (given f (e ∷ es)) ≡ f z) (sym same) here))
      (λ h. at_some_later k e.0 (f e.0) (given f es) h ∙ at-given k es ascends.1 ∙ sym (ap (λ o. where_found o (f k)) (rw h refl)))

found_or_none : {V W : Type 0} (o : Option V) (w : Option W) → (o ≡ None → w ≡ None) → where_found o w ≡ w
found_or_none None w none = sym (none refl)
found_or_none (Some v) w none = refl

module _ {T : Type 0} (old new : Entries T) (old_ascends : Ascends nat_cmp old) (new_ascends : Ascends nat_cmp new) where
  at-delta : (k : ℕ) → at nat_cmp k (delta old new) ≡ change_at old new k
  at-delta k =
      at-given (change_at old new) k (joined old new) (ascends_joined old new new_ascends) ∙ found_or_none (at nat_cmp k (joined old new)) (change_at old new k) (λ none. let both = joined_none k old new none in rw (both.0, both.1) refl)

  pub delta_is : IsDelta old new (delta old new)
  delta_is = record { ascends = ascends_given (change_at old new) (joined old new) (ascends_joined old new new_ascends); each = at-delta }

  -- the first change past a key is the list's first entry there
  pub next_in_delta : (last : Option ℕ) (r : Option (ℕ × ChangeView T)) → IsNext last (change_at old new) r → r ≡ head_of (later last (delta old new))
  next_in_delta last r next =
      let first = head_of (later last (delta old new)) in
      next_unique last (change_at old new) r first next (next_same last (change_at old new) (λ k. at nat_cmp k (delta old new)) first (λ k past. sym (at-delta k)) (next_entry last (delta old new)))

pub first_none : {V : Type 0} (l : List (ℕ × V)) → None ≡ head_of l → l ≡ []
first_none [] none = refl
first_none (e ∷ l) none = absurd (none-some e none)
