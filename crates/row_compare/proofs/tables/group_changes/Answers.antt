use Rattle.std.proofs.Common.{IfOk, sym, subst}
use Rattle.keyed.specs.Keyed.{Ascends}
use Rattle.net_types.specs.Derived.{group-derived}
use Rattle.row_change_laws.specs.Between.{AreChangesBetween}
use Rattle.row_compare.proofs.Derived.{group_order-derived}
use Rattle.switch_laws.proofs.DifferLaws.{marks_decide}
use Rattle.row_compare.proofs.tables.group_changes.Goals as goal

pub changes_between-requires-clause-order : goal.changes_between-requires-clause-order
changes_between-requires-clause-order c = group_order-derived

pub changes_between-requires-clause-test : goal.changes_between-requires-clause-test
changes_between-requires-clause-test c = marks_decide

pub changes_between-requires-clause-old : goal.changes_between-requires-clause-old
changes_between-requires-clause-old c = subst (λ cmp. Ascends cmp c.args.old.items) (sym group-derived) c.requires.old

pub changes_between-requires-clause-new : goal.changes_between-requires-clause-new
changes_between-requires-clause-new c = subst (λ cmp. Ascends cmp c.args.new.items) (sym group-derived) c.requires.new

pub returns : goal.returns
returns c = subst (λ cmp. IfOk c.changes_between.result (λ changes. AreChangesBetween cmp changes c.args.old.items c.args.new.items)) group-derived c.changes_between.ensures
