-- The entries of an edit's FIB in order.
use Rattle.std.proofs.Common.{◌≡◌, ℕ, Option, None, Some, List, ap, ◌∙◌}
use Rattle.std.specs.List.{All}
use Rattle.std.specs.Option.{option_map}
use Rattle.std.specs.Ordering.{is_gt, nat_cmp}
use Rattle.keyed.specs.RangeLaws.{keys_of-past}
use Rattle.keyed.specs.Ranges.{head_of, keys_of, past}
use Rattle.net_types.specs.declared.table.RouteKey.{RouteKey}
use Rattle.net_types.specs.KeyOrder.{route_cmp, route_order}
use Rattle.switch_model.specs.declared.record.FibEntry.{FibEntry}
use Rattle.switch_model.specs.Looking.{key_after}
use Rattle.node_core.specs.Node.{NodeView}
use Rattle.node_map.specs.Map.{MapView}
use Rattle.node_map.specs.TreeNode.{Entries}
use Rattle.state_keys.specs.KeyLaws.{fib_numbering}
use Rattle.state_keys.specs.PartKeys.{fib_number, fib_of, IsFib, IsFibNumber}
use Rattle.state_scan.specs.Listed.{listed}
use Rattle.switch_state.specs.Plain.{fib_entries}
use Rattle.switch_state.specs.StateView.{StateView}
use Rattle.rib_lookup.proofs.Bounds.{head-all, past-find}
use Rattle.rib_lookup.proofs.NumberedKeys.{all-filter, head-is, head-map, keys_listed, part_listed}

first_key : (xs : Entries FibEntry) → option_map (λ e. fib_of e.0) (head_of xs) ≡ head_of (keys_of (listed fib_of xs))
first_key xs = head-map (λ e. fib_of e.0) xs ∙ ap head_of (keys_listed fib_of xs)

module _ (s : StateView) (m : MapView FibEntry) (all : All (λ e. IsFibNumber e.0) m.entries) (map_is : m ≡ s.fibs) where
  pub past-entries : (key : RouteKey) → IsFib key → (n : ℕ) → n ≡ fib_number key → (found : Option (ℕ × NodeView FibEntry)) → found ≡ head_of (past nat_cmp n m.entries) → option_map (λ e. fib_of e.0) found ≡ key_after (Some key) (keys_of (fib_entries s))
  past-entries key range n number found is =
      ap (option_map (λ e. fib_of e.0)) (is ∙ ap (λ (x : ℕ). head_of (past nat_cmp x m.entries)) number)
      ∙ first_key (past nat_cmp (fib_number key) m.entries)
      ∙ ap (λ (l : List (RouteKey × FibEntry)). head_of (keys_of l)) (part_listed fib_numbering key range is_gt m.entries all)
      ∙ ap head_of (keys_of-past route_cmp key (listed fib_of m.entries))
      ∙ past-find route_cmp route_order key (keys_of (listed fib_of m.entries))
      ∙ ap (λ (x : MapView FibEntry). key_after (Some key) (keys_of (listed fib_of x.entries))) map_is

  pub after-entry : (n : ℕ) (e : ℕ × NodeView FibEntry) → Some e ≡ head_of (past nat_cmp n m.entries) → IsFibNumber e.0
  after-entry n e is = head-is (λ e. IsFibNumber e.0) (past nat_cmp n m.entries) e (all-filter (λ e. IsFibNumber e.0) (λ e. is_gt (nat_cmp e.0 n)) m.entries all) is

  pub first-entries : (walk : Entries FibEntry) → walk ≡ m.entries → (found : Option (ℕ × NodeView FibEntry)) → found ≡ head_of walk → option_map (λ e. fib_of e.0) found ≡ key_after None (keys_of (fib_entries s))
  first-entries walk over found is =
      ap (option_map (λ e. fib_of e.0)) (is ∙ ap head_of over) ∙ first_key m.entries ∙ head-all (keys_of (listed fib_of m.entries))
      ∙ ap (λ (x : MapView FibEntry). key_after None (keys_of (listed fib_of x.entries))) map_is

  pub first-entry : (walk : Entries FibEntry) → walk ≡ m.entries → (e : ℕ × NodeView FibEntry) → Some e ≡ head_of walk → IsFibNumber e.0
  first-entry walk over e is = head-is (λ e. IsFibNumber e.0) m.entries e all (is ∙ ap head_of over)
