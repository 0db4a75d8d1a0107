use Rattle.std.proofs.Common.{◌-◌, length}
use Rattle.nexthop_resolve.proofs.GatherLaws.{IsAt}
use Rattle.nexthop_resolve.proofs.gather.gather.Given as goal

abbrev pub invariant-loop-done : goal.invariant-loop-done
invariant-loop-done g l = IsAt (g.R.BestRoutes.rib l.routes) l.vrf l.start l.done l.all

abbrev pub decreases-loop-done : goal.decreases-loop-done
decreases-loop-done g l = length (g.R.BestRoutes.rib l.routes).routes - l.done
