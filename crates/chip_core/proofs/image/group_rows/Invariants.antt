use Rattle.std.proofs.Common.{◌≡◌, take}
use Rattle.chip_core.proofs.image.group_rows.Given as goal

abbrev pub invariant-loop-list : goal.invariant-loop-list
invariant-loop-list l = l.rows.items ≡ take l.list-index l.lists
