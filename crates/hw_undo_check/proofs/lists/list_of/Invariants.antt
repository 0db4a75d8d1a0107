use Rattle.std.proofs.Common.{◌≡◌, ◌++◌}
use Rattle.std.specs.Vec.Iter.{into_iter_items}
use Rattle.hw_undo_check.proofs.lists.list_of.Given as goal

abbrev pub invariant-loop-change : goal.invariant-loop-change
invariant-loop-change g l = record {
  whole : l.list ++ into_iter_items l.change-iterator ≡ l.fn.changes.items;
  can : (goal.iterator-loop-change g).can_next l.change-iterator;
  finite : (goal.iterator-loop-change g).is_finite l.change-iterator;
}
