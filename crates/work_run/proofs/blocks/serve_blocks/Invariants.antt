use Rattle.std.proofs.Common.{◌≡◌}
use Rattle.solo_agent.specs.Views.{Kept}
use Rattle.told_laws.specs.Course.{phases}
use Rattle.work_laws.specs.Work.{in_blocks}
use Rattle.work_run.proofs.BlockLaws.{blocks_from, count_of_blocks}
use Rattle.work_run.proofs.blocks.serve_blocks.Given as goal

abbrev pub invariant-loop-n : goal.invariant-loop-n
invariant-loop-n g l = Kept l.fn.agent l.agent × (phases l.fn.agent.limit l.agent.course (blocks_from l.fn.lines l.n (count_of_blocks l.fn.lines)) ≡ phases l.fn.agent.limit l.fn.agent.course (in_blocks l.fn.lines))
