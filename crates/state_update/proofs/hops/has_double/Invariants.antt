use Rattle.std.proofs.Common.{◌≡◌, drop}
use Rattle.net_types.specs.KeyOrder.{hop_cmp}
use Rattle.switch_model.specs.Hops.{has_double}
use Rattle.state_update.proofs.hops.has_double.Given as goal

abbrev pub invariant-loop-n : goal.invariant-loop-n
invariant-loop-n l = has_double hop_cmp (drop l.n l.hops) ≡ has_double hop_cmp l.hops
