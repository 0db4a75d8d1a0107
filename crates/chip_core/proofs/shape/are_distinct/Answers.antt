use Rattle.std.proofs.Common.{refl}
use Rattle.chip_core.proofs.Members.{none_distinct, twice_at, once_at, once_after}
use Rattle.chip_core.proofs.shape.are_distinct.Goals as goal

pub returns-then-is_named : goal.returns-then-is_named
returns-then-is_named c = ((λ h. absurd (cc)), (λ distinct. absurd (twice_at c.args.members.now c.loop-place.place c.is_named.result c.loop-place-test.true c.is_named.ensures c.if-is_named.true (c.loop-place.invariant.rest distinct))))

pub loop-place-preserved : goal.loop-place-preserved
loop-place-preserved c = record {
  whole = λ rest. c.loop-place.invariant.whole (once_at c.args.members.now c.loop-place.place c.is_named.result c.loop-place-test.true c.is_named.ensures c.if-is_named.false rest);
  rest = λ whole. once_after c.args.members.now c.loop-place.place c.is_named.result c.loop-place-test.true c.is_named.ensures (c.loop-place.invariant.rest whole);
}

pub returns : goal.returns
returns c = ((λ h. c.loop-place.invariant.whole (none_distinct c.args.members.now c.loop-place.place c.loop-place-test.false)), (λ h. refl))
