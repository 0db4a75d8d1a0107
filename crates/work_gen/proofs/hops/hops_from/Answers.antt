use Rattle.std.proofs.Common.{◌∙◌, ◌+◌, sym}
use Rattle.work_gen.proofs.ListLaws.{hops_more, hops_end}
use Rattle.work_gen.proofs.hops.hops_from.Goals as goal

pub loop-place-preserved : goal.loop-place-preserved
loop-place-preserved c =
    hops_more c.loop-place.hops _ c.args.count c.loop-place.place c.args.b c.args.d c.quad.result c.loop-place-test.true c.in_ok-push.ensures.ok c.quad.ensures
    ∙ c.loop-place.invariant

pub returns : goal.returns
returns c = sym (hops_end c.loop-place.hops c.args.count c.loop-place.place c.args.b (c.args.d + c.loop-place.place) c.loop-place-test.false) ∙ c.loop-place.invariant
