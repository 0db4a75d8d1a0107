use Rattle.std.proofs.Common.{subst}
use Rattle.net_types.specs.Derived.{group-derived}
use Rattle.chip_core.specs.ChangeLists.{IsAscending}
use Rattle.chip_core.proofs.changes.GroupChangeList.as_slice.Goals as goal

pub returns-clause-ascending : goal.returns-clause-ascending
returns-clause-ascending c = subst (λ cmp. IsAscending cmp c.as_slice.result.now) group-derived c.as_slice.ensures.ascending
