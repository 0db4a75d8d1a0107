use Rattle.fib_refresh.proofs.ScanLaws.{all-more, all-start}
use Rattle.fib_refresh.proofs.affected.all_of.Goals as goal

pub loop-key-init : goal.loop-key-init
loop-key-init c = all-start c.args.keys.now c.new-all.result c.new-all.ensures

pub loop-key-preserved : goal.loop-key-preserved
loop-key-preserved c = all-more c.args.keys.now c.loop-key.all _ c.loop-key.key-index c.key-item.result c.loop-key-test.true c.key-item.is c.loop-key.invariant c.in_ok-all.ensures
