use Rattle.std.proofs.Common.{All}
use Rattle.state_keys.specs.PartKeys.{IsFibNumber}
use Rattle.fib_check.proofs.print.print_entries.Given as goal

abbrev pub invariant-loop-number : goal.invariant-loop-number
invariant-loop-number l = All (λ e. IsFibNumber e.0) l.number-iterator
