use Rattle.std.proofs.Common.{arith, map}
use Rattle.agent_run.proofs.StandingLaws.{listed_all, listed_next}
use Rattle.agent_run.specs.Standing.{standing_of}
use Rattle.agent_run.proofs.standing.standings_of.Goals as goal

pub loop-n-preserved : goal.loop-n-preserved
loop-n-preserved g c =
    listed_next c.loop-n.n c.loop-n.list c.put_standing.new.list (map standing_of (map g.O.StateObserver.watch c.args.observers.now.list.items)) c.loop-n.invariant c.in_ok-put_standing.ensures.put

pub returns : goal.returns
returns g c =
    record { standings = listed_all g.O.StateObserver.watch c.args.observers.now.list.items c.loop-n.n c.loop-n.list (omega (arith, c.loop-n-test.false, c.loop-n.auto.n-end, c.len-n-end.ensures)) c.loop-n.invariant }
