use Rattle.std.proofs.Common.{◌≡◌, drop}
use Rattle.solo_agent.specs.Views.{Kept}
use Rattle.told_laws.specs.Course.{phases}
use Rattle.solo_agent.proofs.agent.SoloAgent.serve_phases.Given as goal

abbrev pub invariant-loop-phase : goal.invariant-loop-phase
invariant-loop-phase g l = Kept l.fn.self l.self × (phases l.fn.self.limit l.self.course (drop l.phase-index l.fn.all) ≡ phases l.fn.self.limit l.fn.self.course l.fn.all)
