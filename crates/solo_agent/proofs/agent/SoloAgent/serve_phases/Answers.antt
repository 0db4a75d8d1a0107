use Rattle.solo_agent.proofs.AgentLaws.{phase_served}
use Rattle.told_laws.specs.Course.{phases}
use Rattle.solo_agent.proofs.agent.SoloAgent.serve_phases.Goals as goal

pub loop-phase-preserved : goal.loop-phase-preserved
loop-phase-preserved g c =
    let old = c.args.self.now in
    phase_served old c.loop-phase.self c.serve_phase.new.self c.as_slice-phase-items.result.now c.args.all.now c.loop-phase.phase-index c.phase-item.result (phases old.limit old.course c.args.all.now) c.as_slice-phase-items.ensures c.loop-phase-test.true c.phase-item.is c.loop-phase.invariant c.in_ok-serve_phase.ensures.kept c.in_ok-serve_phase.ensures.ok
