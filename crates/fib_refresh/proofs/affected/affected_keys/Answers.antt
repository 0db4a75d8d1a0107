use Rattle.std.proofs.Common.{refl}
use Rattle.state_keys.specs.PartKeys.{rib_of}
use Rattle.state_scan.specs.Listed.{listed}
use Rattle.fib_refresh.proofs.AffectedLaws.{growing-more, growing-start, level-fewer}
use Rattle.fib_refresh.proofs.affected.affected_keys.Goals as goal

pub loop-level-init : goal.loop-level-init
loop-level-init c = growing-start (listed rib_of c.args.routes.now.entries) c.args.changed.now c.in_ok-all_of.field-0 c.is_empty.result _ c.in_ok-all_of.ensures refl refl c.is_empty.ensures

pub loop-level-preserved : goal.loop-level-preserved
loop-level-preserved c = growing-more (listed rib_of c.args.routes.now.entries) c.args.changed.now c.loop-level.level _ c.loop-level.invariant c.in_ok-level.ensures

pub loop-level-smaller : goal.loop-level-smaller
loop-level-smaller c = level-fewer (listed rib_of c.args.routes.now.entries) c.loop-level.level _ c.in_ok-level.ensures c.loop-level-test.true
