-- The first key past another one at which a function gives something.
use Rattle.std.proofs.Common.{◌≡◌, ◌≢◌, ℕ, ◌<◌, ◌≤◌, Bool, true, false, cond, ltb, List, [], ◌∷◌, Option, None, Some, refl, sym, ap, ◌∙◌, subst, arith}
use Rattle.std.specs.Option.{option_map}
use Rattle.std.specs.Ordering.{nat_cmp}
use Rattle.std.proofs.lemmas.Bool.{ltb-true, ltb-false}
use Rattle.std.proofs.lemmas.Option.{none-some}
use Rattle.keyed.specs.Keyed.{at}
use Rattle.node_core.specs.Node.{NodeView}
use Rattle.keyed.specs.Ranges.{head_of}
use Rattle.node_map.specs.Steps.{later, later_than}
use Rattle.node_map.specs.TreeNode.{Entries}
use Rattle.node_map.proofs.Order.{cmp-lt, cmp-gt, cmp-same}
use Rattle.state_delta.specs.Change.{ChangeView, change_of}
use Rattle.state_delta.specs.Delta.{IsPast, IsNext}
use Rattle.state_delta.specs.declared.change.Kind.TheVariants.{Added, Removed}

same_key_by : (x y : ℕ) → (x < y → ⊥) → (y < x → ⊥) → (a : Bool) → ltb x y ≡ a → (b : Bool) → ltb y x ≡ b → x ≡ y
same_key_by x y not_below not_above true below b above = absurd (not_below (ltb-true x y below))
same_key_by x y not_below not_above false below true above = absurd (not_above (ltb-true y x above))
same_key_by x y not_below not_above false below false above = omega (arith, ltb-false x y below, ltb-false y x above)

same_key : (x y : ℕ) → (x < y → ⊥) → (y < x → ⊥) → x ≡ y
same_key x y not_below not_above = same_key_by x y not_below not_above (ltb x y) refl (ltb y x) refl

module _ {W : Type 0} (last : Option ℕ) where
  -- functions that agree past the last key have one next key
  pub next_same : (f g : ℕ → Option W) (r : Option (ℕ × W)) → ((k : ℕ) → IsPast last k → f k ≡ g k) → IsNext last g r → IsNext last f r
  next_same f g None same next = λ k past. same k past ∙ next k past
  next_same f g (Some e) same next = (next.0, same e.0 next.0 ∙ next.1, λ k past lt. same k past ∙ next.2 k past lt)

  -- there is one next key
  pub next_unique : (f : ℕ → Option W) (r s : Option (ℕ × W)) → IsNext last f r → IsNext last f s → r ≡ s
  next_unique f None None one two = refl
  next_unique f None (Some e) one two = absurd (none-some e.1 (sym (one e.0 two.0) ∙ two.1))
  next_unique f (Some e) None one two = absurd (none-some e.1 (sym (two e.0 one.0) ∙ one.1))
  next_unique f (Some d) (Some e) one two =
      let key : d.0 ≡ e.0 = same_key d.0 e.0 (λ lt. none-some d.1 (sym (two.2 d.0 one.0 lt) ∙ one.1)) (λ lt. none-some e.1 (sym (one.2 e.0 two.0 lt) ∙ two.1)) in
      let values : Some d.1 ≡ Some e.1 = sym one.1 ∙ ap f key ∙ two.1 in
      let value : d.1 ≡ e.1 = cc in
      ap (λ (k : ℕ). Some (k, d.1)) key ∙ ap (λ (w : W). Some (e.0, w)) value

  -- a function that is the one below a split and the other from it on
  module _ (split : ℕ) (f below rest : ℕ → Option W) (same_below : (k : ℕ) → k < split → f k ≡ below k) (same_rest : (k : ℕ) → split ≤ k → f k ≡ rest k) (none_above : (k : ℕ) → split ≤ k → below k ≡ None) (none_under : (k : ℕ) → k < split → rest k ≡ None) where
    key_below : (e : ℕ × W) (test : Bool) → ltb e.0 split ≡ test → below e.0 ≡ Some e.1 → e.0 < split
    key_below e true test is = ltb-true e.0 split test
    key_below e false test is = absurd (none-some e.1 (sym (none_above e.0 (ltb-false e.0 split test)) ∙ is))

    pub next_below : (e : ℕ × W) → IsNext last below (Some e) → IsNext last f (Some e)
    next_below e next =
        let lt : e.0 < split = key_below e (ltb e.0 split) refl next.1 in
        (next.0, same_below e.0 lt ∙ next.1, λ k past under. same_below k (omega arith) ∙ next.2 k past under)

    rest_by : IsNext last below None → (k : ℕ) → IsPast last k → (test : Bool) → ltb k split ≡ test → f k ≡ rest k
    rest_by none k past true test = let lt = ltb-true k split test in same_below k lt ∙ none k past ∙ sym (none_under k lt)
    rest_by none k past false test = same_rest k (ltb-false k split test)

    pub next_rest : (r : Option (ℕ × W)) → IsNext last below None → IsNext last rest r → IsNext last f r
    next_rest r none next = next_same f rest r (λ k past. rest_by none k past (ltb k split) refl) next

    pub next_rest_only : (r : Option (ℕ × W)) → ((k : ℕ) → IsPast last k → split ≤ k) → IsNext last rest r → IsNext last f r
    next_rest_only r from next = next_same f rest r (λ k past. same_rest k (from k past)) next

-- what is past a key that isn't past the last one
from_by : (j s k : ℕ) → (j < s → ⊥) → j < k → (test : Bool) → ltb j s ≡ test → s ≤ k
from_by j s k not_past past true test = absurd (not_past (ltb-true j s test))
from_by j s k not_past past false test = let le = ltb-false j s test in omega arith

pub past_from : (last : Option ℕ) (s k : ℕ) → (IsPast last s → ⊥) → IsPast last k → s ≤ k
past_from None s k not_past past = absurd (not_past tt)
past_from (Some j) s k not_past past = from_by j s k not_past past (ltb j s) refl

pub past_apart : (last : Option ℕ) (s k : ℕ) → (IsPast last s → ⊥) → IsPast last k → k ≢ s
past_apart last s k not_past past same = not_past (subst (IsPast last) same past)

module _ {V : Type 0} where
  at_first : (e : ℕ × V) (es : List (ℕ × V)) → at nat_cmp e.0 (e ∷ es) ≡ Some e.1
  at_first e es = rw (cmp-same e.0) refl

  next_past_by : (j : ℕ) (e : ℕ × V) (es : List (ℕ × V)) (test : Bool) → ltb j e.0 ≡ test → IsNext (Some j) (λ k. at nat_cmp k es) (head_of (later_than j es)) → IsNext (Some j) (λ k. at nat_cmp k (e ∷ es)) (head_of (cond test (e ∷ es) (later_than j es)))
  next_past_by j e es true test next = (ltb-true j e.0 test, at_first e es, λ k past lt. rw (cmp-lt k e.0 lt) refl)
  next_past_by j e es false test next =
      next_same (Some j) (λ k. at nat_cmp k (e ∷ es)) (λ k. at nat_cmp k es) (head_of (later_than j es)) (λ k past. let le = ltb-false j e.0 test in rw (cmp-gt k e.0 (omega arith)) refl) next

  next_past : (j : ℕ) (es : List (ℕ × V)) → IsNext (Some j) (λ k. at nat_cmp k es) (head_of (later_than j es))
  next_past j [] = λ k past. refl
  next_past j (e ∷ es) = next_past_by j e es (ltb j e.0) refl (next_past j es)

  -- the first entry past a key is what the look-up finds first
  pub next_entry : (last : Option ℕ) (es : List (ℕ × V)) → IsNext last (λ k. at nat_cmp k es) (head_of (later last es))
  next_entry None [] = λ k past. refl
  next_entry None (e ∷ es) = (tt, at_first e es, λ k past lt. rw (cmp-lt k e.0 lt) refl)
  next_entry (Some j) es = next_past j es

-- what stands in one map alone
module _ {T : Type 0} (last : Option ℕ) (es : Entries T) where
  abbrev removed : ℕ × NodeView T → ℕ × ChangeView T
  removed e = (e.0, record { old = Some e.1.value; new = None; kind = Removed })

  abbrev added : ℕ × NodeView T → ℕ × ChangeView T
  added e = (e.0, record { old = None; new = Some e.1.value; kind = Added })

  pub next_removed : (r : Option (ℕ × NodeView T)) → IsNext last (λ k. at nat_cmp k es) r → IsNext last (λ k. change_of (at nat_cmp k es) None) (option_map removed r)
  next_removed None next = λ k past. ap (λ o. change_of o None) (next k past)
  next_removed (Some e) next = (next.0, ap (λ o. change_of o None) next.1, λ k past lt. ap (λ o. change_of o None) (next.2 k past lt))

  pub next_added : (r : Option (ℕ × NodeView T)) → IsNext last (λ k. at nat_cmp k es) r → IsNext last (λ k. change_of None (at nat_cmp k es)) (option_map added r)
  next_added None next = λ k past. ap (λ o. change_of None o) (next k past)
  next_added (Some e) next = (next.0, ap (λ o. change_of None o) next.1, λ k past lt. ap (λ o. change_of None o) (next.2 k past lt))
