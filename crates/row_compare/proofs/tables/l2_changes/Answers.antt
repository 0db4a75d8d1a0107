use Rattle.row_compare.proofs.Derived.{l2_order-derived, l2_test-derived}
use Rattle.row_compare.proofs.tables.l2_changes.Goals as goal

pub changes_between-requires-clause-order : goal.changes_between-requires-clause-order
changes_between-requires-clause-order c = l2_order-derived

pub changes_between-requires-clause-test : goal.changes_between-requires-clause-test
changes_between-requires-clause-test c = l2_test-derived
