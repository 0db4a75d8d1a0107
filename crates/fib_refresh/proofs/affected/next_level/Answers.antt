use Rattle.std.proofs.Common.{refl}
use Rattle.state_keys.specs.PartKeys.{rib_of}
use Rattle.state_scan.specs.Listed.{listed}
use Rattle.fib_refresh.proofs.ScanLaws.{levelling-end, levelling-fewer, levelling-more, levelling-start}
use Rattle.fib_refresh.proofs.affected.next_level.Goals as goal

pub loop-key-init : goal.loop-key-init
loop-key-init c = levelling-start (listed rib_of c.args.routes.now.entries) c.args.keys.now _ c.in_ok-share.ensures refl

pub loop-key-smaller : goal.loop-key-smaller
loop-key-smaller c = levelling-fewer (listed rib_of c.args.routes.now.entries) c.args.keys.now c.loop-key.last c.loop-key.level c.shape.ensures.ascend c.loop-key.invariant c.in-Some.key c.in-Some.ensures

pub loop-key-preserved : goal.loop-key-preserved
loop-key-preserved c = levelling-more (listed rib_of c.args.routes.now.entries) c.args.keys.now c.loop-key.last c.loop-key.level c.shape.ensures.ascend c.loop-key.invariant c.in-Some.key c.in-Some.ensures c.scan_next.new.level c.in_ok-scan_next.ensures

pub returns : goal.returns
returns c = levelling-end (listed rib_of c.args.routes.now.entries) c.args.keys.now c.loop-key.last c.loop-key.level c.shape.ensures.ascend c.loop-key.invariant c.in_default.ensures
