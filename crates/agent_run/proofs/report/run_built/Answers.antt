use Rattle.std.proofs.Common.{Bool, List, map}
use Rattle.agent_run.specs.Standing.{sures_of}
use Rattle.agent_run.proofs.RunningLaws.{script_built, script_refused}
use Rattle.solo_laws.proofs.ScriptLaws.{one_caller}
use Rattle.agent_run.proofs.report.run_built.Goals as goal

pub run_script-requires-clause-callers : goal.run_script-requires-clause-callers
run_script-requires-clause-callers g c = one_caller c.args.script c.requires.range c.in-Some.ensures.built.0.alone

pub returns-in-Some-clause-report : goal.returns-in-Some-clause-report
returns-in-Some-clause-report g c =
    let sures : List Bool = sures_of (map g.O.StateObserver.watch c.args.observers.list.items) in
    script_built c.args.script c.run_script.result _ sures c.in-Some.ensures.built.0 c.run_script.ensures.report

pub returns-in-Some-clause-fault : goal.returns-in-Some-clause-fault
returns-in-Some-clause-fault g c = script_refused c.args.script c.run_script.result c.in-Some.ensures.built.0 c.run_script.ensures.fault
