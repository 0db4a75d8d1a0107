use Rattle.switch_model.specs.Reach.{leads_to}
use Rattle.nexthop_resolve.proofs.GatherLaws.{grows_none, grows_hop}
use Rattle.nexthop_resolve.proofs.gather.follow_hops.Goals as goal

pub loop-hop-init : goal.loop-hop-init
loop-hop-init g c = grows_none c.args.vrf c.args.all.now

pub loop-hop-preserved : goal.loop-hop-preserved
loop-hop-preserved g c =
    grows_hop c.args.vrf (leads_to (g.R.BestRoutes.rib c.args.routes.now) c.args.vrf) c.args.hops.now c.loop-hop.hop-index c.hop-item.result _
    c.args.all.now c.loop-hop.all c.add.new.all c.loop-hop-test.true c.hop-item.is c.lead_of_hop.ensures c.loop-hop.invariant c.in_ok-add.ensures
