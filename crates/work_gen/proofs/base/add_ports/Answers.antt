use Rattle.std.proofs.Common.{◌∙◌, sym}
use Rattle.work_gen.specs.Base.{port_acts}
use Rattle.work_gen.proofs.ListLaws.{lists_more, lists_end}
use Rattle.work_gen.proofs.base.add_ports.Goals as goal

pub loop-number-preserved : goal.loop-number-preserved
loop-number-preserved c =
    lists_more port_acts c.loop-number.acts.items _ c.loop-number.number 33 c.loop-number-test.true c.in_ok-add_port.ensures
    ∙ c.loop-number.invariant

pub returns : goal.returns
returns c = sym (lists_end port_acts c.loop-number.acts.items c.loop-number.number 33 c.loop-number-test.false) ∙ c.loop-number.invariant
