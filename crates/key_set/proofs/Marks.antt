-- What the keys of a map's entries are after each change.
use Rattle.std.proofs.Common.{◌≡◌, ◌↔◌, ℕ, ◌<◌, Bool, true, false, List, [], ◌∷◌, Option, None, Some, is_some, refl, sym, ap, ◌∙◌, subst, inl, inr}
use Rattle.std.specs.Borrow.{Bor}
use Rattle.std.specs.List.{AllByRecursion, Contains}
use Rattle.std.specs.List.Sorted.{IsStrictlySortedBy}
use Rattle.std.specs.Option.{option_copied, option_map}
use Rattle.std.specs.Ordering.{nat_cmp}
use Rattle.std.specs.declared.cmp.Ordering.TheVariants.{Less, Equal}
use Rattle.std.proofs.lemmas.Option.{none-some}
use Rattle.keyed.specs.Keyed.{at, put, without, IsBelow, Ascends}
use Rattle.keyed.specs.KeyedLaws.{by_order, below_before}
use Rattle.keyed.specs.KeyOrders.{nat_order}
use Rattle.keyed.specs.Members.{contains_first, contains_later, contains_cases, contains_none}
use Rattle.keyed.specs.Ranges.{head_of, last_of, keys_of, up_to, past, keys_up_to, keys_past}
use Rattle.keyed.specs.RangeLaws.{keys_of-up_to, keys_of-past, keys_of-head, keys_of-last}
use Rattle.keyed.specs.Sets.{insert, delete}
use Rattle.key_set.specs.Next.{IsNext}
use Rattle.key_set.proofs.Following.{above_each, head_next}
use Rattle.node_map.proofs.Order.{cmp-gt, cmp-same}

module _ {V : Type 0} where
  pub keys_put : (k : ℕ) (v : V) (l : List (ℕ × V)) → keys_of (put nat_cmp k v l) ≡ insert nat_cmp k (keys_of l)
  keys_put k v [] = refl
  keys_put k v (e ∷ es) = by_order (nat_cmp k e.0) (λ h. rw h refl) (λ h. rw h refl) (λ h. rw h (ap (λ r. e.0 ∷ r) (keys_put k v es)))

  pub keys_without : (k : ℕ) (l : List (ℕ × V)) → keys_of (without nat_cmp k l) ≡ delete nat_cmp k (keys_of l)
  keys_without k [] = refl
  keys_without k (e ∷ es) = by_order (nat_cmp k e.0) (λ h. rw h refl) (λ h. rw h refl) (λ h. rw h (ap (λ r. e.0 ∷ r) (keys_without k es)))

  -- each key is below all later ones
  all_below : (k : ℕ) (l : List (ℕ × V)) → IsBelow nat_cmp k l → Ascends nat_cmp l → AllByRecursion (λ x. nat_cmp k x ≡ Less) (keys_of l)
  all_below k [] b asc = tt
  all_below k (e ∷ es) b asc = (b, all_below k es (below_before nat_cmp nat_order k e.0 es b asc.0) asc.1)

  pub keys_ascend : (l : List (ℕ × V)) → Ascends nat_cmp l → IsStrictlySortedBy nat_cmp (keys_of l)
  unfolding IsStrictlySortedBy
  keys_ascend [] asc = tt
  keys_ascend (e ∷ es) asc = (all_below e.0 es asc.0 asc.1, keys_ascend es asc.1)

  -- a key with an entry is one of the keys
  found_key : (k : ℕ) (v : V) (l : List (ℕ × V)) → at nat_cmp k l ≡ Some v → Contains (keys_of l) k
  found_key k v [] = λ some. absurd (none-some v some)
  found_key k v (e ∷ es) = by_order (nat_cmp k e.0)
      (λ h. rw h (λ some. absurd (none-some v some)))
      (λ h some. subst (λ (x : ℕ). Contains (e.0 ∷ keys_of es) x) (sym (nat_order.exact k e.0 h)) (contains_first e.0 (keys_of es)))
      (λ h. rw h (λ some. contains_later e.0 (keys_of es) k (found_key k v es some)))

  at_first : (k : ℕ) (e : ℕ × V) (es : List (ℕ × V)) → k ≡ e.0 → at nat_cmp k (e ∷ es) ≡ None → ⊥
  at_first k e es same none = let h : nat_cmp k e.0 ≡ Equal = rw same (cmp-same e.0) in none-some e.1 (sym (rw h at none))

  -- and one without isn't
  absent_key : (k : ℕ) (l : List (ℕ × V)) → Ascends nat_cmp l → at nat_cmp k l ≡ None → Contains (keys_of l) k → ⊥
  absent_key k [] asc none has = contains_none k has
  absent_key k (e ∷ es) asc none has = elim (contains_cases e.0 (keys_of es) k has) [
    | inl same ↦ at_first k e es same none
    | inr rest ↦
        let above : e.0 < k = above_each e.0 (keys_of es) k (all_below e.0 es asc.0 asc.1) rest in
        absent_key k es asc.1 (rw (cmp-gt k e.0 above) at none) rest
  ]

  held_by : (k : ℕ) (l : List (ℕ × V)) (under : Option V) → Ascends nat_cmp l → under ≡ at nat_cmp k l → (is_some under ≡ true) ↔ Contains (keys_of l) k
  held_by k l None asc is = ((λ never. absurd (cc)), (λ has. absurd (absent_key k l asc (sym is) has)))
  held_by k l (Some v) asc is = ((λ _. found_key k v l (sym is)), (λ has. refl))

  pub is_held : (k : ℕ) (l : List (ℕ × V)) (found : Option (Bor V)) {test : Bool} → Ascends nat_cmp l → option_copied found ≡ at nat_cmp k l → test ≡ is_some found → (test ≡ true) ↔ Contains (keys_of l) k
  is_held k l None asc is test_is = let held = held_by k l None asc is in ((λ holds. held.0 (sym test_is ∙ holds)), (λ has. test_is ∙ held.1 has))
  is_held k l (Some v) asc is test_is = let held = held_by k l (Some v.now) asc is in ((λ holds. held.0 (sym test_is ∙ holds)), (λ has. test_is ∙ held.1 has))

  -- what look-ups find, of keys alone
  pub first_key : (k : ℕ) (l : List (ℕ × V)) {ks : List ℕ} → keys_of l ≡ ks → option_map (λ e. e.0) (head_of (past nat_cmp k l)) ≡ head_of (keys_past nat_cmp k ks)
  first_key k l keys = keys_of-head (past nat_cmp k l) ∙ ap head_of (keys_of-past nat_cmp k l) ∙ ap (λ z. head_of (keys_past nat_cmp k z)) keys

  pub last_key : (k : ℕ) (l : List (ℕ × V)) {ks : List ℕ} → keys_of l ≡ ks → option_map (λ e. e.0) (last_of (up_to nat_cmp k l)) ≡ last_of (keys_up_to nat_cmp k ks)
  last_key k l keys = keys_of-last (up_to nat_cmp k l) ∙ ap last_of (keys_of-up_to nat_cmp k l) ∙ ap (λ z. last_of (keys_up_to nat_cmp k z)) keys

  pub least_key : (k : ℕ) (l : List (ℕ × V)) {ks : List ℕ} (o : Option ℕ) → Ascends nat_cmp l → keys_of l ≡ ks → o ≡ option_map (λ e. e.0) (head_of (past nat_cmp k l)) → IsNext (Some k) ks o
  least_key k l {ks} o asc keys is =
      let sorted : IsStrictlySortedBy nat_cmp ks = subst (λ (z : List ℕ). IsStrictlySortedBy nat_cmp z) keys (keys_ascend l asc) in
      subst (λ (x : Option ℕ). IsNext (Some k) ks x) (sym (is ∙ first_key k l keys)) (head_next k ks sorted)
