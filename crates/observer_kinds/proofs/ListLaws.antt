-- Lists of changes, as they are made change by change.
use Rattle.std.proofs.Common.{◌≡◌, ℕ, List, [], ◌∷◌, ◌++◌, map, sym, ap, ◌∙◌, append_assoc, append-nil}
use Rattle.std.specs.Ordering.{nat_cmp}
use Rattle.keyed.specs.Keyed.{Ascends}
use Rattle.keyed.specs.KeyedLaws.{same_at}
use Rattle.keyed.specs.KeyOrders.{nat_order}
use Rattle.node_map.specs.TreeNode.{Entries}
use Rattle.state_delta.specs.Change.{ChangeView}
use Rattle.state_delta.specs.Delta.{IsDelta, delta}
use Rattle.state_delta.proofs.Listing.{delta_is}
use Rattle.observer_kinds.specs.declared.listing.Part.{Part}
use Rattle.observer_kinds.specs.declared.listing.PartChange.{PartChange}
use Rattle.observer_kinds.specs.Changes.{part_change, part_changes}

module _ {T : Type 0} where
  -- there is one list of all changes
  whole_delta : (old new : Entries T) (changes : List (ℕ × ChangeView T)) → Ascends nat_cmp old → Ascends nat_cmp new → IsDelta old new changes → changes ≡ delta old new
  whole_delta old new changes old_asc new_asc is =
      let whole = delta_is old new old_asc new_asc in
      same_at nat_cmp nat_order changes (delta old new) is.ascends whole.ascends (λ k. is.each k ∙ sym (whole.each k))

  pub listing_begins : (part : Part) (before : List PartChange) (old new : Entries T) (given left : List (ℕ × ChangeView T)) → left ≡ given → Ascends nat_cmp old → Ascends nat_cmp new → IsDelta old new given → before ++ map (part_change part) left ≡ before ++ part_changes part old new
  listing_begins part before old new given left same old_asc new_asc is = ap (λ (l : List (ℕ × ChangeView T)). before ++ map (part_change part) l) (same ∙ whole_delta old new given old_asc new_asc is)

  pub lists_more : (part : Part) (done after all : List PartChange) (c : ℕ × ChangeView T) (met left : List (ℕ × ChangeView T)) → met ≡ c ∷ left → after ≡ done ++ part_change part c ∷ [] → done ++ map (part_change part) met ≡ all → after ++ map (part_change part) left ≡ all
  lists_more part done after all c met left first pushed before =
      ap (λ (l : List PartChange). l ++ map (part_change part) left) pushed
      ∙ append_assoc done (part_change part c ∷ []) (map (part_change part) left)
      ∙ ap (λ (l : List (ℕ × ChangeView T)). done ++ map (part_change part) l) (sym first)
      ∙ before

  pub listing_ends : (part : Part) (done all : List PartChange) (left : List (ℕ × ChangeView T)) → left ≡ [] → done ++ map (part_change part) left ≡ all → done ≡ all
  listing_ends part done all left none is =
      sym (append-nil done)
      ∙ ap (λ (l : List (ℕ × ChangeView T)). done ++ map (part_change part) l) (sym none)
      ∙ is
