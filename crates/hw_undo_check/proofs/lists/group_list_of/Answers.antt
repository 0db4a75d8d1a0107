use Rattle.std.proofs.Common.{sym, subst}
use Rattle.net_types.specs.Derived.{group-derived}
use Rattle.chip_core.specs.ChangeLists.{IsAscending}
use Rattle.hw_undo_check.proofs.lists.group_list_of.Goals as goal

pub list_of-requires : goal.list_of-requires
list_of-requires c = subst (λ cmp. IsAscending cmp c.args.changes.items) (sym group-derived) c.requires.ascending
