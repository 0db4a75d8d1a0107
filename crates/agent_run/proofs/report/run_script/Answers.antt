use Rattle.std.proofs.Common.{Bool, List, map, refl, subst}
use Rattle.agent_run.specs.declared.run.Work.{Work}
use Rattle.base_state.specs.Base.{IsBase}
use Rattle.agent_run.specs.Standing.{sures_of}
use Rattle.agent_run.proofs.RunningLaws.{script_reported, script_too_big}
use Rattle.agent_run.proofs.report.run_script.Goals as goal

pub returns-in-Ok-Laid-clause-report : goal.returns-in-Ok-Laid-clause-report
returns-in-Ok-Laid-clause-report g c =
    let work : Work = record { caps = c.args.caps; limit = c.args.script.limit; phases = c.args.script.phases } in
    let sures : List Bool = sures_of (map g.O.StateObserver.watch c.args.observers.list.items) in
    script_reported _ c.args.script work c.in-Ok-Laid.state sures c.run_state.result c.requires.start refl refl (subst (IsBase c.args.script.base) c.in-Ok-Laid.field-0-is c.in-Ok-Laid.ensures.base) c.run_state.ensures.report

pub returns-in-Ok-Laid-clause-fault : goal.returns-in-Ok-Laid-clause-fault
returns-in-Ok-Laid-clause-fault g c =
    script_too_big c.args.script c.args.caps c.in-Ok-Laid.state c.run_state.result c.requires.start (subst (IsBase c.args.script.base) c.in-Ok-Laid.field-0-is c.in-Ok-Laid.ensures.base) c.run_state.ensures.fault
