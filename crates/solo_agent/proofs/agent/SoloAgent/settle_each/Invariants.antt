use Rattle.std.proofs.Common.{◌≡◌, drop}
use Rattle.solo_agent.specs.Views.{Goes}
use Rattle.told_laws.specs.Course.{settle_each}
use Rattle.solo_agent.proofs.agent.SoloAgent.settle_each.Given as goal

abbrev pub invariant-loop-n : goal.invariant-loop-n
invariant-loop-n g l = Goes l.fn.self l.self × (settle_each (drop l.n l.fn.self.course.tickets) l.self.course ≡ settle_each l.fn.self.course.tickets l.fn.self.course)
