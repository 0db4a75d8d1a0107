use Rattle.std.proofs.Common.{length}
use Rattle.saved_state.specs.Merging.{IsPushing}
use Rattle.saved_state.proofs.neighbors.push_before.Given as goal

abbrev pub invariant-loop-row : goal.invariant-loop-row
invariant-loop-row l = IsPushing l.key l.ndps l.left l.fn.rows.items l.rows.items

abbrev pub decreases-loop-row : goal.decreases-loop-row
decreases-loop-row l = length l.left
