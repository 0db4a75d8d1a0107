use Rattle.std.proofs.Common.{map}
use Rattle.agent_run.proofs.RunningLaws.{report_is}
use Rattle.agent_run.proofs.run.report_core.Goals as goal

pub returns-in-Ok : goal.returns-in-Ok
returns-in-Ok g c =
    let parts = c.into_parts-chip.result in
    record { report = report_is _ c.args.core c.args.replies.now parts.1 c.in-Ok.rows (map g.O.StateObserver.watch parts.2.list.items) c.write_report-text.result c.into_parts-chip.ensures.published c.in-Ok.ensures.rows c.into_parts-chip.ensures.watches c.write_report-text.ensures.report }
