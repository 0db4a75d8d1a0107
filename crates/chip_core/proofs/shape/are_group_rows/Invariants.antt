use Rattle.std.proofs.Common.{All, take}
use Rattle.chip_core.specs.Tables.{IsGroupRow}
use Rattle.chip_core.proofs.shape.are_group_rows.Given as goal

abbrev pub invariant-loop-group : goal.invariant-loop-group
invariant-loop-group l = All (λ group. IsGroupRow group.1) (take l.group-index l.groups)
