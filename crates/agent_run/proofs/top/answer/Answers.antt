use Rattle.std.proofs.Common.{Bool, List, map}
use Rattle.agent_run.specs.Standing.{sures_of}
use Rattle.run_outcome.proofs.TopLaws.{fault_answer}
use Rattle.agent_run.proofs.top.answer.Goals as goal

pub returns-in-Err-Refused-clause-answered : goal.returns-in-Err-Refused-clause-answered
returns-in-Err-Refused-clause-answered g c =
    let sures : List Bool = sures_of (map g.O.StateObserver.watch c.args.observers.list.items) in
    fault_answer sures c.args.bytes.now _ c.in-Err-Refused.refusal _ _ _ _ c.refuse.result c.in-Err-Refused.field-0-is c.in-Err-Refused.ensures.fault c.in-Err-Refused.ensures.only c.refuse.ensures.declined
