use Rattle.std.proofs.Common.{◌≡◌, ◌++◌}
use Rattle.std.specs.Vec.Iter.{into_iter_items}
use Rattle.sorted_table.proofs.table.SortedTable.fill.Given as goal

abbrev pub invariant-loop-key : goal.invariant-loop-key
invariant-loop-key g l = record {
  rows : l.self.rows ++ into_iter_items l.key-iterator ≡ l.fn.rows.items;
  capacity : l.self.capacity ≡ l.initial.self.capacity;
  can : (goal.iterator-loop-key g).can_next l.key-iterator;
  finite : (goal.iterator-loop-key g).is_finite l.key-iterator;
}
