use Rattle.work_gen.proofs.RouteLaws.{route_drawn}
use Rattle.work_gen.proofs.draws.route_set.Goals as goal

pub returns : goal.returns
returns c =
    route_drawn c.args.rng.now c.draw-block.new.rng c.draw-number.new.rng c.draw-link.new.rng c.draw-count.new.rng c.draw-host.new.rng
    c.draw-block.result c.draw-number.result c.draw-link.result c.draw-count.result c.draw-host.result c.only_vrf.result c.far_prefix.result c.client.result c.in_ok-hops.hops
    c.draw-block.ensures.drawn c.draw-number.ensures.drawn c.draw-link.ensures.drawn c.draw-count.ensures.drawn c.draw-host.ensures.drawn
    c.only_vrf.ensures c.far_prefix.ensures c.client.ensures c.in_ok-hops.ensures
