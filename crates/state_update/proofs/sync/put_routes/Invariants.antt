use Rattle.std.proofs.Common.{drop}
use Rattle.state_update.proofs.Syncing.{IsPutting}
use Rattle.state_update.proofs.sync.put_routes.Given as goal

abbrev pub invariant-loop-route : goal.invariant-loop-route
invariant-loop-route l = IsPutting l.vrf l.client l.routes (drop l.route-index l.routes) l.fn.edit l.edit
