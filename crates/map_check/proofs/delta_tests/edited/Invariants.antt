use Rattle.std.proofs.Common.{◌+◌}
use Rattle.node_map.specs.Follows.{FollowsAt, IsMadeBy}
use Rattle.map_check.proofs.delta_tests.edited.Given as goal

abbrev pub invariant-loop-edit : goal.invariant-loop-edit
invariant-loop-edit l = record {
  follows : FollowsAt l.version l.base.nodes l.now.nodes;
  made : IsMadeBy (l.version + 1) l.now.nodes;
}
