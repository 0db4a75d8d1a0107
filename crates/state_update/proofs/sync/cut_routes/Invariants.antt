use Rattle.std.proofs.Common.{drop}
use Rattle.state_update.proofs.Syncing.{IsCutting}
use Rattle.state_update.proofs.sync.cut_routes.Given as goal

abbrev pub invariant-loop-prefix : goal.invariant-loop-prefix
invariant-loop-prefix l = IsCutting l.vrf l.client l.prefixes (drop l.prefix-index l.prefixes) l.fn.edit l.edit
