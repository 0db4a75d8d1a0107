use Rattle.std.proofs.Common.{length}
use Rattle.state_counts.proofs.CountLaws.{IsCounting}
use Rattle.state_counts.proofs.counting.count_all.Given as goal

abbrev pub invariant-loop-entry : goal.invariant-loop-entry
invariant-loop-entry g l = IsCounting l.count (length l._entry-iterator) (length l.fn.map.entries)
