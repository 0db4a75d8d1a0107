use Rattle.std.proofs.Common.{IfOk, sym, subst}
use Rattle.keyed.specs.Keyed.{Ascends}
use Rattle.net_types.specs.Derived.{host-derived, host_order-derived}
use Rattle.row_change_laws.specs.Between.{AreChangesBetween}
use Rattle.row_compare.proofs.Derived.{host_test-derived}
use Rattle.row_compare.proofs.tables.host_changes.Goals as goal

pub changes_between-requires-clause-order : goal.changes_between-requires-clause-order
changes_between-requires-clause-order c = host_order-derived

pub changes_between-requires-clause-test : goal.changes_between-requires-clause-test
changes_between-requires-clause-test c = host_test-derived

pub changes_between-requires-clause-old : goal.changes_between-requires-clause-old
changes_between-requires-clause-old c = subst (λ cmp. Ascends cmp c.args.old.items) (sym host-derived) c.requires.old

pub changes_between-requires-clause-new : goal.changes_between-requires-clause-new
changes_between-requires-clause-new c = subst (λ cmp. Ascends cmp c.args.new.items) (sym host-derived) c.requires.new

pub returns : goal.returns
returns c = subst (λ cmp. IfOk c.changes_between.result (λ changes. AreChangesBetween cmp changes c.args.old.items c.args.new.items)) host-derived c.changes_between.ensures
