use Rattle.hw_undo.proofs.Leads.{closed-view}
use Rattle.chip_core.specs.ListLaws.{some-value}
use Rattle.hw_undo.proofs.groups.slots_at.Goals as goal

pub slots_of-slots-requires-clause-known : goal.slots_of-slots-requires-clause-known
slots_of-slots-requires-clause-known g c =
    let sound = g.met.C.HwSwitch.sound c.args.chip.now in
    let marks = some-value _ c.requires.there in
    (closed-view (g.C.HwSwitch.raw c.args.chip.now) sound.rows).group c.args.keys.now marks.0 marks.1
