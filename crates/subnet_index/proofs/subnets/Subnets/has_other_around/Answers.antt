use Rattle.std.proofs.Common.{ap, ◌∙◌, sym, arith}
use Rattle.subnet_index.proofs.Overlaps.{none_first, none_last, none_more, some_at}
use Rattle.subnet_index.proofs.subnets.Subnets.has_other_around.Goals as goal

pub loop-len-init : goal.loop-len-init
loop-len-init c = none_first c.args.intf c.args.vrf c.args.prefix.now c.args.self.now

pub loop-len-preserved : goal.loop-len-preserved
loop-len-preserved c = none_more c.args.intf c.args.vrf c.args.prefix.now c.shortened.result c.args.self.now c.loop-len.len c.has_other_at.result c.shortened.ensures.value c.has_other_at.ensures c.if-has_other_at.false c.loop-len.invariant

pub returns-then-has_other_at : goal.returns-then-has_other_at
returns-then-has_other_at c = some_at c.args.intf c.args.vrf c.args.prefix.now c.shortened.result c.args.self.now c.loop-len.len c.has_other_at.result c.shortened.ensures.value (omega (arith, c.loop-len-test.true, c.len-len-end.ensures.value)) c.has_other_at.ensures c.if-has_other_at.true

pub returns : goal.returns
returns c = none_last c.args.intf c.args.vrf c.args.prefix.now c.args.self.now c.loop-len.len c.args.prefix.now.len (omega (arith, c.loop-len-test.false, c.len-len-end.ensures.value)) c.loop-len.invariant
