use Rattle.plain_looker.specs.ScanLaws.{subnets_more}
use Rattle.plain_looker.proofs.scan.least_subnet.Goals as goal

pub loop-addr-preserved : goal.loop-addr-preserved
loop-addr-preserved g c = subnets_more g.W.Wanted.cmp g.met.W.Wanted.order (g.W.Wanted.test c.args.wanted.now) c.args.vrf c.as_slice-addr-items.result.now c.loop-addr.addr-index c.addr-item.result c.loop-addr.least c.lesser-least.result c.subnet.result c.loop-addr-test.true c.addr-item.is c.loop-addr.invariant c.subnet.ensures c.lesser-least.ensures
