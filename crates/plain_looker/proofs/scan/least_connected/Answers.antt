use Rattle.plain_looker.specs.ScanLaws.{intfs_more}
use Rattle.plain_looker.proofs.scan.least_connected.Goals as goal

pub loop-entry-preserved : goal.loop-entry-preserved
loop-entry-preserved g c = intfs_more g.W.Wanted.cmp g.met.W.Wanted.order (g.W.Wanted.test c.args.wanted.now) c.args.intfs.now c.loop-entry.entry-index c.entry-item.result c.loop-entry.least c.lesser-least.result c.least_subnet.result c.loop-entry-test.true c.entry-item.is c.loop-entry.invariant c.least_subnet.ensures c.lesser-least.ensures
