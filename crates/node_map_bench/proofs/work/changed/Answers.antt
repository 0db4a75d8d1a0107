use Rattle.std.proofs.Common.{sym, subst}
use Rattle.node_map.specs.Follows.{FollowsAt}
use Rattle.node_map_bench.proofs.work.changed.Goals as goal

pub loop-step-init : goal.loop-step-init
loop-step-init c = subst (λ m. FollowsAt 1 c.args.base.now.nodes m.nodes) (sym c.in_ok-now.ensures) c.follows_itself.ensures
