use Rattle.std.proofs.Common.{arith}
use Rattle.state_update.proofs.Renewing.{lost_births}
use Rattle.state_update.proofs.Syncing.{born_further, cut_first, paths_further, cut_more, cut_number}
use Rattle.state_update.proofs.sync.cut_routes.Goals as goal

pub returns-in_err-cut_route-clause-paths : goal.returns-in_err-cut_route-clause-paths
returns-in_err-cut_route-clause-paths c = paths_further c.args.edit.now c.loop-prefix.edit c.cut_route.new.edit c.loop-prefix.invariant.others (cut_number c.args.vrf c.args.client c.args.prefixes.now c.loop-prefix.prefix-index c.prefix-item.result (omega arith) c.prefix-item.is c.cut_route.ensures.range) c.loop-prefix.invariant.paths c.cut_route.ensures.paths

pub loop-prefix-preserved : goal.loop-prefix-preserved
loop-prefix-preserved c = cut_more c.args.vrf c.args.client c.args.prefixes.now c.loop-prefix.prefix-index c.prefix-item.result c.args.edit.now c.loop-prefix.edit c.cut_route.new.edit (omega arith) c.prefix-item.is c.cut_route.ensures.range c.loop-prefix.invariant c.in_ok-cut_route.ensures.effect c.cut_route.ensures.others c.cut_route.ensures.births c.cut_route.ensures.paths c.cut_route.ensures.born

pub returns-in_err-cut_route-clause-born : goal.returns-in_err-cut_route-clause-born
returns-in_err-cut_route-clause-born c = born_further c.args.edit.now c.loop-prefix.edit c.cut_route.new.edit c.loop-prefix.invariant.others c.loop-prefix.invariant.born (lost_births c.cut_route.ensures.births) c.cut_route.ensures.born

pub loop-prefix-init : goal.loop-prefix-init
loop-prefix-init c = cut_first c.args.vrf c.args.client c.args.prefixes.now c.args.edit.now
