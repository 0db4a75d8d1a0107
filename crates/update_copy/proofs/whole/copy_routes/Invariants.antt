use Rattle.std.proofs.Common.{◌≡◌, take}
use Rattle.update_copy.proofs.whole.copy_routes.Given as goal

abbrev pub invariant-loop-prefix : goal.invariant-loop-prefix
invariant-loop-prefix l = l.copy ≡ take l.prefix-index l.routes
