use Rattle.std.proofs.Common.{◌≡◌, ℕ, ◌+◌, ◌≤◌, [], length}
use mathlib.Core.Option.{some}
use Rattle.keyed.specs.Prefix.{IsPrefix}
use lib.ListN.{get_elem?}
use Rattle.turn_book.proofs.Closes.{end_of}
use Rattle.turn_book.proofs.book.TurnBook.close.Given as goal

abbrev pub invariant-loop-pass : goal.invariant-loop-pass
invariant-loop-pass g l = record {
  table : l.last.table_id ≡ l.initial.last.table_id;
  view : l.last.me ≡ (record l.initial.last.me.0 { ended = l.last.me.0.ended }, []);
  left : IsPrefix l.rest.items l.initial.rest.items;
  count : length l.last.me.0.ended + length l.rest.items ≡ length l.initial.rest.items;
  there : (k : ℕ) (p : _) → get_elem? l.initial.rest.items k ≡ some p → length l.rest.items ≤ k → (i : ℕ) × (i + k + 1 ≡ length l.initial.rest.items) × (get_elem? l.last.me.0.ended i ≡ some (end_of p));
}

abbrev pub decreases-loop-pass : goal.decreases-loop-pass
decreases-loop-pass g l = length l.rest.items
