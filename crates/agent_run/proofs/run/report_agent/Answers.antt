use Rattle.agent_run.proofs.RunningLaws.{agent_report_is}
use Rattle.agent_run.proofs.run.report_agent.Goals as goal

pub returns-in-Ok : goal.returns-in-Ok
returns-in-Ok g c =
    let parts = c.into_parts-core.result in
    record { report = agent_report_is _ c.args.agent parts.0 parts.1 c.in-Ok.replies c.report_core-text.result c.into_parts-core.ensures.core c.into_parts-core.ensures.replies c.in-Ok.ensures.ordered c.report_core-text.ensures.report }
