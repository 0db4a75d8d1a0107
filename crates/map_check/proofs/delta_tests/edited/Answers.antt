use Rattle.std.proofs.Common.{◌+◌, sym, subst}
use Rattle.node_map.specs.Follows.{FollowsAt, IsMadeBy}
use Rattle.map_check.proofs.delta_tests.edited.Goals as goal

pub loop-edit-init : goal.loop-edit-init
loop-edit-init c = record {
  follows = subst (λ m. FollowsAt c.args.version c.args.base.now.nodes m.nodes) (sym c.in_ok-now.ensures) c.follows_itself.ensures;
  made = subst (λ m. IsMadeBy (c.args.version + 1) m.nodes) (sym c.in_ok-now.ensures) c.stays_made_by.ensures;
}
