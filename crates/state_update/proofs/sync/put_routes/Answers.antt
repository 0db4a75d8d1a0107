use Rattle.std.proofs.Common.{arith}
use Rattle.state_update.proofs.Renewing.{renewed_births}
use Rattle.state_update.proofs.Syncing.{born_further, put_first, paths_further, put_more, put_number}
use Rattle.state_update.proofs.sync.put_routes.Goals as goal

pub returns-in_err-put_route-clause-paths : goal.returns-in_err-put_route-clause-paths
returns-in_err-put_route-clause-paths c = paths_further c.args.edit.now c.loop-route.edit c.put_route.new.edit c.loop-route.invariant.others (put_number c.args.vrf c.args.client c.args.routes.now c.loop-route.route-index c.route-item.result (omega arith) c.route-item.is c.put_route.ensures.range) c.loop-route.invariant.paths c.put_route.ensures.paths

pub loop-route-preserved : goal.loop-route-preserved
loop-route-preserved c = put_more c.args.vrf c.args.client c.args.routes.now c.loop-route.route-index c.route-item.result c.args.edit.now c.loop-route.edit c.put_route.new.edit (omega arith) c.route-item.is c.put_route.ensures.range c.loop-route.invariant c.in_ok-put_route.ensures.effect c.put_route.ensures.others c.put_route.ensures.births c.put_route.ensures.paths c.put_route.ensures.born

pub returns-in_err-put_route-clause-born : goal.returns-in_err-put_route-clause-born
returns-in_err-put_route-clause-born c = born_further c.args.edit.now c.loop-route.edit c.put_route.new.edit c.loop-route.invariant.others c.loop-route.invariant.born (renewed_births c.put_route.ensures.births) c.put_route.ensures.born

pub loop-route-init : goal.loop-route-init
loop-route-init c = put_first c.args.vrf c.args.client c.args.routes.now c.args.edit.now
