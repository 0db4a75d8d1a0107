use Rattle.std.proofs.Common.{◌∙◌, Bool, List, ap, map}
use Rattle.agent_run.specs.Standing.{sures_of}
use Rattle.agent_run.proofs.RunningLaws.{bytes_reported}
use Rattle.run_outcome.specs.Refusal.{unread}
use Rattle.run_outcome.proofs.RunLaws.{bytes_refused, only_memory}
use Rattle.agent_run.proofs.report.report_of.Goals as goal

pub returns-in-Ok-clause-report : goal.returns-in-Ok-clause-report
returns-in-Ok-clause-report g c =
    let sures : List Bool = sures_of (map g.O.StateObserver.watch c.args.observers.list.items) in
    bytes_reported _ c.args.bytes.now c.in-Ok.script sures c.run_built.result c.in-Ok.ensures.script c.in-Ok.ensures.ranges c.run_built.ensures.report

pub returns-in-Ok-clause-fault : goal.returns-in-Ok-clause-fault
returns-in-Ok-clause-fault g c = bytes_refused c.args.bytes.now c.in-Ok.script c.run_built.result c.in-Ok.ensures.script c.run_built.ensures.fault

pub returns-in-Ok-clause-only : goal.returns-in-Ok-clause-only
returns-in-Ok-clause-only g c = only_memory c.args.bytes.now c.in-Ok.script c.run_built.result c.in-Ok.ensures.only c.run_built.ensures.fault

pub returns-in-Err-clause-only : goal.returns-in-Err-clause-only
returns-in-Err-clause-only g c = λ can. c.unread.ensures ∙ ap unread (c.in-Err.ensures.only can.0 can.2.is_script)
