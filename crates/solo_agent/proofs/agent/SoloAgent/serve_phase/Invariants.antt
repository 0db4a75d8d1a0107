use Rattle.std.proofs.Common.{◌≡◌, drop}
use Rattle.solo_agent.specs.Views.{Kept}
use Rattle.told_laws.specs.Course.{lines}
use Rattle.solo_agent.proofs.agent.SoloAgent.serve_phase.Given as goal

abbrev pub invariant-loop-line : goal.invariant-loop-line
invariant-loop-line g l = Kept l.fn.self l.self × (lines l.fn.self.limit l.self.course (drop l.line-index l.fn.phase) ≡ lines l.fn.self.limit l.fn.self.course l.fn.phase)
