use Rattle.state_keys.specs.PartKeys.{rib_of}
use Rattle.state_scan.specs.Listed.{listed}
use Rattle.fib_refresh.proofs.AffectedLaws.{left, IsGrowing}
use Rattle.fib_refresh.proofs.affected.affected_keys.Given as goal

abbrev pub invariant-loop-level : goal.invariant-loop-level
invariant-loop-level l = IsGrowing (listed rib_of l.routes.entries) l.changed l.level

abbrev pub decreases-loop-level : goal.decreases-loop-level
decreases-loop-level l = left (listed rib_of l.routes.entries) l.level
