use Rattle.std.proofs.Common.{◌-◌, ◌≤◌}
use Rattle.node_key.specs.Place.{IsBracket}
use Rattle.node_key.proofs.fork.Fork.around.Given as goal

abbrev pub invariant-loop-above : goal.invariant-loop-above
invariant-loop-above l = record {
  bracket : IsBracket l.at l.key l.below l.above;
  from : l.wide ≤ l.below;
  to : l.above ≤ l.top;
}

abbrev pub decreases-loop-above : goal.decreases-loop-above
decreases-loop-above l = l.above - l.below
