use Rattle.plain_looker.specs.ScanLaws.{routes_more}
use Rattle.plain_looker.proofs.scan.least_routed.Goals as goal

pub loop-entry-preserved : goal.loop-entry-preserved
loop-entry-preserved g c = routes_more g.W.Wanted.cmp g.met.W.Wanted.order (g.W.Wanted.test c.args.wanted.now) c.args.routes.now c.loop-entry.entry-index c.entry-item.result c.loop-entry.least c.lesser-least.result c.passing.result c.loop-entry-test.true c.entry-item.is c.loop-entry.invariant c.passing.ensures c.lesser-least.ensures
