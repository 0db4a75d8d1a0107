use Rattle.std.proofs.Common.{ap, map, ◌∙◌}
use Rattle.switch_model.specs.Reach.{leads_to, hops_of_best}
use Rattle.nexthop_resolve.proofs.GatherLaws.{grows_same}
use Rattle.nexthop_resolve.proofs.gather.follow.Goals as goal

pub returns-in_ok-follow_hops : goal.returns-in_ok-follow_hops
returns-in_ok-follow_hops g c =
    let best = rw c.in-Some-Route.field-0-is at c.in-Some-Route.ensures in
    grows_same c.args.vrf c.args.all.now c.follow_hops.new.all _ _ c.in_ok-follow_hops.ensures (ap (map (leads_to (g.R.BestRoutes.rib c.args.routes.now) c.args.vrf)) (c.hops_of.ensures c.in-Some-Route.field-0-0 ∙ ap hops_of_best best))
