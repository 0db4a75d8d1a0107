use Rattle.std.proofs.Common.{◌≡◌, map, take}
use Rattle.agent_run.specs.Standing.{standing_of}
use Rattle.agent_run.proofs.standing.standings_of.Given as goal

abbrev pub invariant-loop-n : goal.invariant-loop-n
invariant-loop-n g l = l.list ≡ take l.n (map standing_of (map g.O.StateObserver.watch l.fn.observers.list.items))
