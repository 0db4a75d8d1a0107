use Rattle.std.proofs.Common.{◌≡◌, ◌+◌, true, [], length, Some}
use Rattle.turn_book.specs.Passes.{new_passes}
use Rattle.turn_book.specs.Rule.{newcomer}
use Rattle.turn_book.proofs.book.TurnBook.open.Given as goal

abbrev pub invariant-loop-i : goal.invariant-loop-i
invariant-loop-i g l = record {
  table : l.first.table_id ≡ l.book-inside.table.shared.table_id;
  maker : l.first.me ≡ (newcomer (Some (g.V.Settles.opening l.fn.desk)) l.callers 0 true l.i, []);
  count : length l.passes.items + 1 ≡ l.i;
  row : l.passes.items ≡ new_passes (record { id = l.first.table_id; callers = l.callers; opening = g.V.Settles.opening l.fn.desk }) 1 (length l.passes.items);
}
