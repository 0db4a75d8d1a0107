use Rattle.std.proofs.Common.{◌<◌, ◌∙◌, ap, arith, length, sym}
use Rattle.solo_agent.specs.Views.{SoloView}
use Rattle.solo_agent.proofs.AgentLaws.{each_next}
use Rattle.told_laws.specs.Course.{settle_each}
use Rattle.solo_agent.proofs.agent.SoloAgent.settle_each.Goals as goal

pub loop-n-preserved : goal.loop-n-preserved
loop-n-preserved g c =
    let old = c.args.self.now in
    let ws = c.self-in-loop-n.inside.tickets.items in
    let ws_are = ap (λ (a : SoloView). a.course.tickets) c.self-in-loop-n.view_is in
    let long = ap length (ws_are ∙ c.loop-n.invariant.0.tickets ∙ sym (ap (λ (a : SoloView). a.course.tickets) c.self.view_is)) in
    let below : c.loop-n.n < length ws = omega (arith, c.loop-n-test.true, c.loop-n.auto.n-end, c.len-n-end.ensures, long) in
    each_next old c.loop-n.self c.settle_ticket.new.self ws c.loop-n.n c.index-ticket.result.now (settle_each old.course.tickets old.course) ws_are c.loop-n.invariant.0 c.loop-n.invariant.1 below c.index-ticket.ensures c.in_ok-settle_ticket.ensures.goes c.in_ok-settle_ticket.ensures.ok
