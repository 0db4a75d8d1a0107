use Rattle.std.proofs.Common.{◌≡◌, ◌++◌, take}
use Rattle.switch_model.specs.Round.{unmarked}
use Rattle.run_queue.proofs.Loading.{left_to_take}
use Rattle.run_queue.proofs.run.Run.fill_unmarked.Given as goal

abbrev pub invariant-loop-n : goal.invariant-loop-n
invariant-loop-n l = l.self ++ left_to_take l.n l.pending ≡ take 64 (unmarked l.pending)
