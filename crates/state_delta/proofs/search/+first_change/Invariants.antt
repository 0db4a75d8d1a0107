use Rattle.std.proofs.Common.{◌+◌, length}
use Rattle.state_delta.specs.Sides.{side_nodes}
use Rattle.state_delta.proofs.search.+first_change.Given as goal

abbrev pub decreases-first_change : goal.decreases-first_change
decreases-first_change g l = length (side_nodes l.old) + length (side_nodes l.new)
