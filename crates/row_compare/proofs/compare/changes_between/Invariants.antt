use Rattle.std.proofs.Common.{◌+◌, length}
use Rattle.row_compare.proofs.StepLaws.{IsComparing}
use Rattle.row_compare.proofs.compare.changes_between.Given as goal

abbrev pub invariant-loop-pair : goal.invariant-loop-pair
invariant-loop-pair g l = IsComparing g.K.Ord.cmp l.fn.old.items l.fn.new.items l.old_left.items l.new_left.items l.changes

abbrev pub decreases-loop-pair : goal.decreases-loop-pair
decreases-loop-pair g l = length l.old_left.items + length l.new_left.items
