use Rattle.std.proofs.Common.{take}
use Rattle.fib_refresh.specs.Affected.{HasAll}
use Rattle.fib_refresh.proofs.affected.all_of.Given as goal

abbrev pub invariant-loop-key : goal.invariant-loop-key
invariant-loop-key l = HasAll (take l.key-index l.keys) l.all
