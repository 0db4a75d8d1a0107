-- What differs between two trees that are cut at one key.
use Rattle.std.proofs.Common.{◌≡◌, ℕ, ◌+◌, ◌<◌, ◌≤◌, length, Option, None, Some, sym, ap, ◌∙◌, subst, arith, inl, inr}
use Rattle.std.specs.Borrow.{Bor}
use Rattle.std.specs.List.{Contains}
use Rattle.std.specs.Ordering.{nat_cmp}
use Rattle.keyed.specs.Keyed.{at}
use Rattle.node_map.specs.Sound.{IsSound}
use Rattle.node_map.specs.TreeNode.{TreeNode, TreeView}
use Rattle.state_delta.specs.Change.{ChangeView, change_of}
use Rattle.state_delta.specs.Cut.{PartsBoth, IsCut}
use Rattle.state_delta.specs.Delta.{IsPast, IsNext, change_at}
use Rattle.state_delta.specs.Sides.{Agree, side_entries, side_nodes}
use Rattle.state_delta.proofs.Changes.{agree_part, shared_none}
use Rattle.state_delta.proofs.Next.{next_below, next_rest, next_rest_only, past_from}

some_nodes : {T : Type 0} (t : TreeView T) → IsSound t → 0 < length t.nodes
some_nodes t sound = let lt = sound.root.1 in omega arith

module _ {T : Type 0} (o p : Option (Bor (TreeView T))) (old new : Bor (TreeView T)) (o_is : o ≡ Some old) (p_is : p ≡ Some new) where
  pub shared_sides : IsSound old.now → IsSound new.now → Agree (side_nodes o) (side_nodes p) → (old.now.low ≡ new.now.low) × (old.now.width ≡ new.now.width) × (old.now.generation ≡ new.now.generation) → (key : ℕ) → change_at (side_entries o) (side_entries p) key ≡ None
  shared_sides sound_old sound_new agree same key =
      let here : Agree old.now.nodes new.now.nodes = subst (λ z. Agree (side_nodes z) new.now.nodes) o_is (subst (λ z. Agree (side_nodes o) (side_nodes z)) p_is agree) in
      subst (λ z. change_at (side_entries z) (side_entries p) key ≡ None) (sym o_is) (subst (λ z. change_at old.now.entries (side_entries z) key ≡ None) (sym p_is) (shared_none old.now new.now sound_old sound_new here same key))

  module _ {split : ℕ} {old_below old_rest new_below new_rest : Option (Bor (TreeView T))} (cut_old : IsCut split old.now old_below old_rest) (cut_new : IsCut split new.now new_below new_rest) where
    old_nodes : (n : TreeNode T) → Contains old.now.nodes n → Contains (side_nodes o) n
    old_nodes n h = subst (λ z. Contains (side_nodes z) n) (sym o_is) h

    new_nodes : (n : TreeNode T) → Contains new.now.nodes n → Contains (side_nodes p) n
    new_nodes n h = subst (λ z. Contains (side_nodes z) n) (sym p_is) h

    pub agree_below : Agree (side_nodes o) (side_nodes p) → Agree (side_nodes old_below) (side_nodes new_below)
    agree_below agree = agree_part (λ n h. old_nodes n (cut_old.below_nodes n h)) (λ n h. new_nodes n (cut_new.below_nodes n h)) agree

    pub agree_rest : Agree (side_nodes o) (side_nodes p) → Agree (side_nodes old_rest) (side_nodes new_rest)
    agree_rest agree = agree_part (λ n h. old_nodes n (cut_old.rest_nodes n h)) (λ n h. new_nodes n (cut_new.rest_nodes n h)) agree

    -- how many nodes there are
    module _ (sound_old : IsSound old.now) (sound_new : IsSound new.now) (parts : PartsBoth split old.now new.now) where
      abbrev Fewer : Type 0
      Fewer = (length (side_nodes old_below) + length (side_nodes new_below) < length old.now.nodes + length new.now.nodes) × (length (side_nodes old_rest) + length (side_nodes new_rest) < length old.now.nodes + length new.now.nodes)

      fewer : Fewer
      fewer =
          let a = cut_old.fewer in
          let b = cut_new.fewer in
          let c = some_nodes old.now sound_old in
          let d = some_nodes new.now sound_new in
          elim parts.apart [
            | inl middle ↦ elim middle [
              | inl m ↦ let h = cut_old.halved m in (omega arith, omega arith)
              | inr m ↦ let h = cut_new.halved m in (omega arith, omega arith)
            ]
            | inr between ↦ elim between [
              | inl x ↦ let h = cut_old.none_from x.below in let k = cut_new.none_below x.from in (omega arith, omega arith)
              | inr x ↦ let h = cut_new.none_from x.below in let k = cut_old.none_below x.from in (omega arith, omega arith)
            ]
          ]

      count_is : length (side_nodes o) + length (side_nodes p) ≡ length old.now.nodes + length new.now.nodes
      count_is = ap (λ z. length (side_nodes z) + length (side_nodes p)) o_is ∙ ap (λ z. length old.now.nodes + length (side_nodes z)) p_is

      pub fewer_below : length (side_nodes old_below) + length (side_nodes new_below) < length (side_nodes o) + length (side_nodes p)
      fewer_below = let f = fewer.0 in let e = count_is in omega arith

      pub fewer_rest : length (side_nodes old_rest) + length (side_nodes new_rest) < length (side_nodes o) + length (side_nodes p)
      fewer_rest = let f = fewer.1 in let e = count_is in omega arith

    same_below : (k : ℕ) → k < split → change_at (side_entries o) (side_entries p) k ≡ change_at (side_entries old_below) (side_entries new_below) k
    same_below k lt =
        let in_old : at nat_cmp k (side_entries o) ≡ at nat_cmp k (side_entries old_below) = ap (λ z. at nat_cmp k (side_entries z)) o_is ∙ cut_old.below_at k lt in
        let in_new : at nat_cmp k (side_entries p) ≡ at nat_cmp k (side_entries new_below) = ap (λ z. at nat_cmp k (side_entries z)) p_is ∙ cut_new.below_at k lt in
        ap (λ z. change_of z (at nat_cmp k (side_entries p))) in_old ∙ ap (λ z. change_of (at nat_cmp k (side_entries old_below)) z) in_new

    same_rest : (k : ℕ) → split ≤ k → change_at (side_entries o) (side_entries p) k ≡ change_at (side_entries old_rest) (side_entries new_rest) k
    same_rest k ge =
        let in_old : at nat_cmp k (side_entries o) ≡ at nat_cmp k (side_entries old_rest) = ap (λ z. at nat_cmp k (side_entries z)) o_is ∙ cut_old.rest_at k ge in
        let in_new : at nat_cmp k (side_entries p) ≡ at nat_cmp k (side_entries new_rest) = ap (λ z. at nat_cmp k (side_entries z)) p_is ∙ cut_new.rest_at k ge in
        ap (λ z. change_of z (at nat_cmp k (side_entries p))) in_old ∙ ap (λ z. change_of (at nat_cmp k (side_entries old_rest)) z) in_new

    none_above : (k : ℕ) → split ≤ k → change_at (side_entries old_below) (side_entries new_below) k ≡ None
    none_above k ge = ap (λ z. change_of z (at nat_cmp k (side_entries new_below))) (cut_old.below_none k ge) ∙ ap (λ z. change_of None z) (cut_new.below_none k ge)

    none_under : (k : ℕ) → k < split → change_at (side_entries old_rest) (side_entries new_rest) k ≡ None
    none_under k lt = ap (λ z. change_of z (at nat_cmp k (side_entries new_rest))) (cut_old.rest_none k lt) ∙ ap (λ z. change_of None z) (cut_new.rest_none k lt)

    -- the first change of the whole, by those of the halves
    module _ (last : Option ℕ) where
      abbrev whole : ℕ → Option (ChangeView T)
      whole = change_at (side_entries o) (side_entries p)

      abbrev below : ℕ → Option (ChangeView T)
      below = change_at (side_entries old_below) (side_entries new_below)

      abbrev rest : ℕ → Option (ChangeView T)
      rest = change_at (side_entries old_rest) (side_entries new_rest)

      pub in_below : (e : ℕ × ChangeView T) → IsNext last below (Some e) → IsNext last whole (Some e)
      in_below e next = next_below last split whole below rest same_below same_rest none_above none_under e next

      pub in_rest : (r : Option (ℕ × ChangeView T)) → IsNext last below None → IsNext last rest r → IsNext last whole r
      in_rest r none next = next_rest last split whole below rest same_below same_rest none_above none_under r none next

      pub in_rest_only : (r : Option (ℕ × ChangeView T)) → (IsPast last split → ⊥) → IsNext last rest r → IsNext last whole r
      in_rest_only r not_past next = next_rest_only last split whole below rest same_below same_rest none_above none_under r (λ k past. past_from last split k not_past past) next
