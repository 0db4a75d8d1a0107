use Rattle.std.proofs.Common.{◌≡◌, drop}
use Rattle.run_queue.proofs.pending.Pending.drop_front.Given as goal

abbrev pub invariant-loop : goal.invariant-loop
invariant-loop l = l.self ≡ drop l.counter l.fn.self
