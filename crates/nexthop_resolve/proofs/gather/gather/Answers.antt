use Rattle.std.proofs.Common.{◌≤◌, length, arith}
use Rattle.nexthop_resolve.proofs.GatherLaws.{at_start, at_more, at_end, few_seen}
use Rattle.nexthop_resolve.proofs.gather.gather.Goals as goal

pub loop-done-init : goal.loop-done-init
loop-done-init g c = at_start (g.R.BestRoutes.rib c.args.routes.now) c.args.vrf c.args.start.now c.nothing_yet-all.result _ c.nothing_yet-all.ensures c.in_ok-visit.ensures

pub loop-done-smaller : goal.loop-done-smaller
loop-done-smaller g c =
    let rib = g.R.BestRoutes.rib c.args.routes.now in
    let few : length c.loop-done.all.seen.items ≤ length rib.routes = few_seen rib c.args.vrf c.args.start.now c.loop-done.done c.loop-done.all c.loop-done.invariant c.requires in
    omega (arith, few, c.loop-done-test.true, c.len.ensures, c.loop-done.all.seen.ok.0)

pub loop-done-preserved : goal.loop-done-preserved
loop-done-preserved g c =
    at_more (g.R.BestRoutes.rib c.args.routes.now) c.args.vrf c.args.start.now c.loop-done.done _ c.loop-done.all _ c.loop-done.invariant (omega (arith, c.loop-done.all.seen.ok.0)) c.index.ensures c.in_ok-follow.ensures

pub returns : goal.returns
returns g c = at_end (g.R.BestRoutes.rib c.args.routes.now) c.args.vrf c.args.start.now c.loop-done.done c.loop-done.all c.loop-done.invariant (omega (arith, c.loop-done.all.seen.ok.0))
