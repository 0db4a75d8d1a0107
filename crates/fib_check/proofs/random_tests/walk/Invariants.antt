use Rattle.state_laws.specs.Fib.{HasFib}
use Rattle.fib_check.proofs.random_tests.walk.Given as goal

abbrev pub invariant-loop : goal.invariant-loop
invariant-loop l = HasFib l.state
