use Rattle.ip_text.proofs.Powers.{scaled_fits, scaled_step}
use Rattle.std.proofs.Common.{arith}
use Rattle.ip_text.proofs.ipv6.scaled.Goals as goal

pub overflow_mul-value : goal.overflow_mul-value
overflow_mul-value c = omega (arith, scaled_fits c.args.before c.args.count c.loop-i.value c.loop-i._i c.requires c.loop-i.invariant (omega arith))

pub loop-i-preserved : goal.loop-i-preserved
loop-i-preserved c = scaled_step _ _ _ c.loop-i.invariant
