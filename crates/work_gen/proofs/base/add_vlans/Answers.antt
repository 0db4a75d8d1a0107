use Rattle.std.proofs.Common.{◌∙◌, sym, ap, ◌++◌, ◌∷◌, []}
use Rattle.work_gen.specs.Base.{vlan_act}
use Rattle.work_gen.proofs.ListLaws.{items_more, items_end}
use Rattle.work_gen.proofs.base.add_vlans.Goals as goal

pub loop-number-preserved : goal.loop-number-preserved
loop-number-preserved c =
    items_more vlan_act c.loop-number.acts.items _ c.loop-number.number 9 c.loop-number-test.true (c.in_ok-push.ensures.items ∙ ap (λ a. c.loop-number.acts.items ++ a ∷ []) c.in_ok-vlan_act.ensures)
    ∙ c.loop-number.invariant

pub returns : goal.returns
returns c = sym (items_end vlan_act c.loop-number.acts.items c.loop-number.number 9 c.loop-number-test.false) ∙ c.loop-number.invariant
