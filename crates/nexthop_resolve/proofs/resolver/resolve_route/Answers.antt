use Rattle.std.proofs.Common.{Some, ap, sym, ◌∙◌}
use Rattle.switch_model.specs.BestRoute.{learnt}
use Rattle.switch_model.specs.FibLaws.{fib-by_ends}
use Rattle.nexthop_resolve.proofs.resolver.resolve_route.Goals as goal

pub returns-in_ok-end-in-Hops : goal.returns-in_ok-end-in-Hops
returns-in_ok-end-in-Hops g c =
    c.in_ok-end-in-Hops.ensures
    ∙ fib-by_ends (g.R.BestRoutes.rib c.args.routes.now) c.args.vrf c.args.prefix.now c.requires.client _ _ _ _ (ap (λ r. Some (learnt c.requires.client r)) (sym c.in-Hops.is) ∙ sym c.requires.is) c.in_ok-all-in-Hops.ensures
