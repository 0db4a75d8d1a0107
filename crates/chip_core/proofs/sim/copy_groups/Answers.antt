use Rattle.std.proofs.Common.{◌++◌, ◌∷◌, [], sym, ap, ◌∙◌}
use Rattle.chip_core.specs.Taken.{taken}
use Rattle.chip_core.proofs.TakenLaws.{taken-more}
use Rattle.chip_core.proofs.sim.copy_groups.Goals as goal

pub loop-slot-preserved : goal.loop-slot-preserved
loop-slot-preserved c =
    let slots = c.args.slots.now in
    let n = c.loop-slot.slot in
    let o = c.index-slots-slot.result in
    c.in_ok-push_group.ensures
    ∙ ap (λ l. l ++ taken n (o ∷ [])) c.loop-slot.invariant
    ∙ sym (taken-more n slots o c.loop-slot-test.true c.index-slots-slot.is)
