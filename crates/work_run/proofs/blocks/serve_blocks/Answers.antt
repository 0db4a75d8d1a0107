use Rattle.std.proofs.Common.{arith}
use Rattle.told_laws.specs.Course.{phases}
use Rattle.work_laws.specs.Work.{in_blocks}
use Rattle.work_run.proofs.BlockLaws.{block_served, count_of_blocks}
use Rattle.work_run.proofs.blocks.serve_blocks.Goals as goal

pub loop-n-preserved : goal.loop-n-preserved
loop-n-preserved g c =
    let old = c.args.agent.now in
    let ls = c.args.lines.now in
    block_served old c.loop-n.agent c.serve_block.new.agent ls c.block_at.result.now c.loop-n.n (count_of_blocks ls) (phases old.limit old.course (in_blocks ls)) (omega (arith, c.loop-n-test.true, c.div_ceil-n-end.ensures)) c.block_at.ensures.block c.loop-n.invariant c.in_ok-serve_block.ensures.kept c.in_ok-serve_block.ensures.course
