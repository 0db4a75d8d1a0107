use Rattle.node_map.specs.Follows.{FollowsAt}
use Rattle.node_map_bench.proofs.work.changed.Given as goal

abbrev pub invariant-loop-step : goal.invariant-loop-step
invariant-loop-step l = FollowsAt 1 l.base.nodes l.now.nodes
