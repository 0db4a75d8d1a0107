-- What look-ups in a map find in the list of its part.
use Rattle.std.proofs.Common.{◌≡◌, ℕ, Option, None, Some, is_some, refl, sym, ap, ◌∙◌}
use Rattle.std.specs.Borrow.{Bor}
use Rattle.std.specs.List.{All}
use Rattle.std.specs.Option.{option_copied, option_map}
use Rattle.std.specs.Ordering.{nat_cmp}
use Rattle.std.specs.declared.cmp.Ordering.{Ordering}
use Rattle.keyed.specs.Keyed.{at}
use Rattle.node_core.specs.Node.{NodeView}
use Rattle.node_map.specs.Map.{MapView}
use Rattle.state_keys.specs.Numbering.{IsNumbering, IsNumberOf}
use Rattle.state_scan.specs.Listed.{listed}
use Rattle.state_scan.proofs.Listing.{at_listed}

pub some_copied : {T : Type 0} (o : Option (Bor T)) → is_some o ≡ is_some (option_copied o)
some_copied None = refl
some_copied (Some r) = refl

module _ {K : Type 0} {cmp : K → K → Ordering} {Is : K → Type 0} {number : K → ℕ} {of : ℕ → K} (law : IsNumbering cmp Is number of) {T : Type 0} where
  pub looked_up : (k : K) (made : ℕ) (seen old : MapView T) (found : Option T) → Is k → made ≡ number k → seen ≡ old → All (λ e. IsNumberOf Is number of e.0) seen.entries → found ≡ option_map (λ n. n.value) (at nat_cmp made seen.entries) → found ≡ at cmp k (listed of old.entries)
  looked_up k made seen old found is key same numbers found_is =
      found_is
      ∙ ap (λ (n : ℕ). option_map (λ (x : NodeView T). x.value) (at nat_cmp n seen.entries)) key
      ∙ sym (at_listed law k seen.entries is numbers)
      ∙ ap (λ (m : MapView T). at cmp k (listed of m.entries)) same
