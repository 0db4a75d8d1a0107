use Rattle.std.proofs.Common.{◌∙◌, sym}
use Rattle.work_gen.specs.Base.{intf_acts}
use Rattle.work_gen.proofs.ListLaws.{lists_more, lists_end}
use Rattle.work_gen.proofs.base.add_intfs.Goals as goal

pub loop-number-preserved : goal.loop-number-preserved
loop-number-preserved c =
    lists_more intf_acts c.loop-number.acts.items _ c.loop-number.number 9 c.loop-number-test.true c.in_ok-add_intf.ensures
    ∙ c.loop-number.invariant

pub returns : goal.returns
returns c = sym (lists_end intf_acts c.loop-number.acts.items c.loop-number.number 9 c.loop-number-test.false) ∙ c.loop-number.invariant
