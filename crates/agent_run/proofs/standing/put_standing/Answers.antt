use Rattle.std.proofs.Common.{refl}
use Rattle.agent_run.proofs.StandingLaws.{next_none, next_there, put_if, put_none}
use Rattle.agent_run.proofs.standing.put_standing.Goals as goal

pub returns-in-Some : goal.returns-in-Some
returns-in-Some g c =
    let there = next_there g.O.StateObserver.watch c.args.observers.now.list.items c.args.n c.in-Some.standing c.in-Some.ensures.standing in
    record { put = put_if c.push.result c.args.list.now c.push.new.self _ c.in-Some.standing c.push.ensures.ok there }

pub returns-in-None : goal.returns-in-None
returns-in-None g c =
    let none = next_none g.O.StateObserver.watch c.args.observers.now.list.items c.args.n c.in-None.ensures.standing in
    record { put = put_none c.args.list.now c.args.list.now _ refl none }
