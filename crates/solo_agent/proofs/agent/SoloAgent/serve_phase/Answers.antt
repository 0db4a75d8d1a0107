use Rattle.solo_agent.proofs.AgentLaws.{line_served}
use Rattle.told_laws.specs.Course.{lines}
use Rattle.solo_agent.proofs.agent.SoloAgent.serve_phase.Goals as goal

pub loop-line-preserved : goal.loop-line-preserved
loop-line-preserved g c =
    let old = c.args.self.now in
    line_served old c.loop-line.self c.serve.new.self c.as_slice-line-items.result.now c.args.phase.now c.loop-line.line-index c.line-item.result (lines old.limit old.course c.args.phase.now) c.as_slice-line-items.ensures c.loop-line-test.true c.line-item.is c.loop-line.invariant c.in_ok-serve.ensures.kept c.in_ok-serve.ensures.ok
