use Rattle.std.proofs.Common.{◌≡◌, drop}
use Rattle.solo_agent.specs.Views.{Kept}
use Rattle.told_laws.specs.Course.{lines}
use Rattle.work_run.proofs.blocks.serve_block.Given as goal

abbrev pub invariant-loop-line : goal.invariant-loop-line
invariant-loop-line g l = Kept l.fn.agent l.agent × (lines l.fn.agent.limit l.agent.course (drop l.line-index l.fn.block) ≡ lines l.fn.agent.limit l.fn.agent.course l.fn.block)
