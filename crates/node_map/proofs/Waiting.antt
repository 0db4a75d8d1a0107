-- The trees that a walk has still to meet.
use Rattle.std.proofs.Common.{◌≡◌, ℕ, zero, suc, ◌+◌, ◌<◌, ◌≤◌, List, [], ◌∷◌, ◌++◌, length, get_or, replicate, Option, None, Some, refl, sym, ap, ◌∙◌, subst, append_assoc, append-nil, get_or-set_same, get_or-set_other, arith, inl, inr}
use Rattle.std.specs.Borrow.{Bor}
use Rattle.std.specs.Ordering.{nat_cmp}
use Rattle.std.proofs.Math.ListN.{set, length-set}
use Rattle.std.proofs.lemmas.Bool.{cases_eq}
use Rattle.std.proofs.lemmas.List.{get_or_default}
use Rattle.keyed.specs.Ranges.{onward}
use Rattle.node_map.specs.Pending.{AreSlots, IsNarrow, IsTaken, slot_entries, pending_entries}
use Rattle.node_map.specs.Sound.{IsBranch}
use Rattle.node_map.specs.TreeNode.{Entries, TreeView, branch_view}
use Rattle.node_map.proofs.Trees.{onward_left, onward_right}

abbrev Slots : Type 0 → Type 0
Slots T = List (Option (Bor (TreeView T)))

module _ {T : Type 0} where
  -- a tree that is put before all others
  pending_put : (slots : Slots T) (at : ℕ) (tree : Option (Bor (TreeView T))) → at < length slots → ((k : ℕ) → k < at + 1 → get_or slots k None ≡ None) → pending_entries (set slots at tree) ≡ slot_entries tree ++ pending_entries slots
  pending_put [] at tree lt none = absurd (omega arith)
  pending_put (o ∷ os) zero tree lt none = ap (λ z. slot_entries tree ++ (slot_entries z ++ pending_entries os)) (sym (none 0 (omega arith)))
  pending_put (o ∷ os) (suc n) tree lt none =
      let first : o ≡ None = none 0 (omega arith) in
      let further = pending_put os n tree (omega arith) (λ k under. none (suc k) (omega arith)) in
      ap (λ z. slot_entries z ++ pending_entries (set os n tree)) first ∙ further ∙ ap (λ z. slot_entries tree ++ (slot_entries z ++ pending_entries os)) (sym first)

  -- the first tree that is taken out
  pending_take : (slots : Slots T) (at : ℕ) (tree : Bor (TreeView T)) → get_or slots at None ≡ Some tree → at < length slots → ((k : ℕ) → k < at → get_or slots k None ≡ None) → pending_entries slots ≡ tree.now.entries ++ pending_entries (set slots at None)
  pending_take [] at tree is lt none = absurd (omega arith)
  pending_take (o ∷ os) zero tree is lt none = ap (λ z. slot_entries z ++ pending_entries os) is
  pending_take (o ∷ os) (suc n) tree is lt none =
      let first : o ≡ None = none 0 (omega arith) in
      let further = pending_take os n tree is (omega arith) (λ k under. none (suc k) (omega arith)) in
      ap (λ z. slot_entries z ++ pending_entries os) first ∙ further ∙ ap (λ z. tree.now.entries ++ (slot_entries z ++ pending_entries (set os n None))) (sym first)

  pending_none : (slots : Slots T) → ((k : ℕ) → k < length slots → get_or slots k None ≡ None) → pending_entries slots ≡ []
  pending_none [] none = refl
  pending_none (o ∷ os) none = ap (λ z. slot_entries z ++ pending_entries os) (none 0 (omega arith)) ∙ pending_none os (λ k lt. none (suc k) (omega arith))

  narrow_set : (slots : Slots T) (at k : ℕ) (tree : Option (Bor (TreeView T))) → at < length slots → IsNarrow at tree → IsNarrow k (get_or slots k None) → IsNarrow k (get_or (set slots at tree) k None)
  narrow_set slots at k tree lt new old = elim (cases_eq k at) [
    | inl same ↦ subst (IsNarrow k) (sym (ap (λ z. get_or (set slots at tree) z None) same ∙ get_or-set_same slots at tree None lt)) (subst (λ z. IsNarrow z tree) (sym same) new)
    | inr apart ↦ subst (IsNarrow k) (sym (get_or-set_other slots at k tree None apart)) old
  ]

  -- the slots after one of them is set, those before it being empty
  pub slots_set : {from : ℕ} (slots : Slots T) (at : ℕ) (tree : Option (Bor (TreeView T))) → AreSlots from slots → at < 193 → ((k : ℕ) → k < at → get_or slots k None ≡ None) → IsNarrow at tree → AreSlots at (set slots at tree)
  slots_set {from} slots at tree are lt none new =
      let count : length slots ≡ 193 = are.count in
      record {
        count = length-set slots at tree ∙ count;
        none_before = λ k under. get_or-set_other slots at k tree None (omega arith) ∙ none k under;
        narrow = λ k. narrow_set slots at k tree (omega arith) new (are.narrow k);
      }

  -- the first tree is taken
  pub taken_some : {from at : ℕ} {tree : Bor (TreeView T)} (slots : Slots T) → AreSlots from slots → at < 193 → ((k : ℕ) → k < at → get_or slots k None ≡ None) → get_or slots at None ≡ Some tree → IsTaken from slots (set slots at None) (Some (at, tree))
  taken_some {from} {at} {tree} slots are lt none is =
      let count : length slots ≡ 193 = are.count in
      (slots_set slots at None are lt none tt, subst (IsNarrow at) is (are.narrow at), pending_take slots at tree is (omega arith) none)

  -- there is none
  pub taken_none : {from : ℕ} (slots : Slots T) → AreSlots from slots → ((k : ℕ) → k < 193 → get_or slots k None ≡ None) → IsTaken from slots slots None
  taken_none {from} slots are none =
      let count : length slots ≡ 193 = are.count in
      let empty = pending_none slots (λ k lt. none k (omega arith)) in
      (are, empty, empty)

  -- the same, as the code has it
  pub taken_here : {from at : ℕ} (d : Option (Bor (TreeView T))) {found : Bor (TreeView T)} {slots before : Slots T} → slots ≡ before → AreSlots from before → at < 193 → ((k : ℕ) → k < at → get_or slots k None ≡ None) → get_or slots at d ≡ Some found → IsTaken from before (set slots at None) (Some (at, found))
  taken_here {from} {at} d {found} {slots} {before} same are lt none is =
      let here : AreSlots from slots = subst (AreSlots from) (sym same) are in
      let count : length slots ≡ 193 = here.count in
      subst (λ z. IsTaken from z (set slots at None) (Some (at, found))) same (taken_some slots here lt none (sym (get_or_default slots at d None (omega arith)) ∙ is))

  pub taken_nowhere : {from at : ℕ} {slots before : Slots T} → slots ≡ before → AreSlots from before → 193 ≤ at → ((k : ℕ) → k < at → get_or slots k None ≡ None) → IsTaken from before slots None
  taken_nowhere {from} {at} {slots} {before} same are ge none =
      subst (λ z. IsTaken from z slots None) same (taken_none slots (subst (AreSlots from) (sym same) are) (λ k lt. none k (omega arith)))

  -- the empty slots with a root
  get_replicate : (n k : ℕ) (empty : Option (Bor (TreeView T))) → empty ≡ None → get_or (replicate n empty) k None ≡ None
  get_replicate zero k empty is = refl
  get_replicate (suc n) zero empty is = is
  get_replicate (suc n) (suc k) empty is = get_replicate n k empty is

  pub root_slots : (slots : Slots T) (root : Option (Bor (TreeView T))) → slots ≡ replicate 193 None → IsNarrow 192 root → AreSlots 192 (set slots 192 root)
  root_slots slots root slots_is narrow =
      let empty : (k : ℕ) → get_or slots k None ≡ None = λ k. ap (λ z. get_or z k None) slots_is ∙ get_replicate 193 k None refl in
      let count : length slots ≡ 193 = ap length slots_is in
      let are : AreSlots 0 slots = record { count = count; none_before = λ k lt. empty k; narrow = λ k. subst (IsNarrow k) (sym (empty k)) tt } in
      slots_set slots 192 root are (omega arith) (λ k lt. empty k) narrow

  pub root_pending : (slots : Slots T) (root : Option (Bor (TreeView T))) → slots ≡ replicate 193 None → pending_entries (set slots 192 root) ≡ slot_entries root
  root_pending slots root slots_is =
      let empty : (k : ℕ) → get_or slots k None ≡ None = λ k. ap (λ z. get_or z k None) slots_is ∙ get_replicate 193 k None refl in
      let count : length slots ≡ 193 = ap length slots_is in
      pending_put slots 192 root (omega arith) (λ k lt. empty k) ∙ ap (λ z. slot_entries root ++ z) (pending_none slots (λ k lt. empty k)) ∙ append-nil (slot_entries root)

  -- the right half is kept on the way down
  pub halves_pending : {from at : ℕ} {low width generation : ℕ} {t : TreeView T} (slots after : Slots T) (left right : Bor (TreeView T)) (first : Entries T) → AreSlots from slots → branch_view low width generation left.now right.now ≡ t → at < from → at < 193 → first ++ pending_entries after ≡ left.now.entries ++ pending_entries (set slots at (Some right)) → first ++ pending_entries after ≡ t.entries ++ pending_entries slots
  halves_pending {from} {at} {low} {width} {generation} {t} slots after left right first are view under fits is =
      let count : length slots ≡ 193 = are.count in
      is ∙ ap (λ z. left.now.entries ++ z) (pending_put slots at (Some right) (omega arith) (λ k lt. are.none_before k (omega arith))) ∙ sym (append_assoc left.now.entries right.now.entries (pending_entries slots)) ∙ ap (λ v. v.entries ++ pending_entries slots) view

  -- the same on the way down to a key in the left half
  pub onward_pending : {from at : ℕ} {low split width generation : ℕ} {t : TreeView T} (slots after : Slots T) (left right : Bor (TreeView T)) (first : Entries T) (key : ℕ) → AreSlots from slots → IsBranch low split width left.now right.now → branch_view low width generation left.now right.now ≡ t → key < split → at < from → at < 193 → first ++ pending_entries after ≡ onward nat_cmp key left.now.entries ++ pending_entries (set slots at (Some right)) → first ++ pending_entries after ≡ onward nat_cmp key t.entries ++ pending_entries slots
  onward_pending {from} {at} {low} {split} {width} {generation} {t} slots after left right first key are is_branch view lt under fits is =
      let count : length slots ≡ 193 = are.count in
      is ∙ ap (λ z. onward nat_cmp key left.now.entries ++ z) (pending_put slots at (Some right) (omega arith) (λ k lt. are.none_before k (omega arith))) ∙ sym (append_assoc (onward nat_cmp key left.now.entries) right.now.entries (pending_entries slots)) ∙ ap (λ z. z ++ pending_entries slots) (sym (onward_left is_branch key lt)) ∙ ap (λ v. onward nat_cmp key v.entries ++ pending_entries slots) view

  pub onward_right_half : {low split width generation : ℕ} {t : TreeView T} (left right : TreeView T) (key : ℕ) → IsBranch low split width left right → branch_view low width generation left right ≡ t → split ≤ key → onward nat_cmp key right.entries ≡ onward nat_cmp key t.entries
  onward_right_half {t = t} left right key is_branch view ge = sym (onward_right is_branch key ge) ∙ ap (λ v. onward nat_cmp key v.entries) view
