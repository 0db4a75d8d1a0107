use Rattle.hw_undo.proofs.Leads.{host-replaced, host-there}
use Rattle.hw_undo.proofs.RollBack.{noted-one}
use Rattle.hw_undo.proofs.Undoing.{undoes-set_host}
use Rattle.hw_undo.proofs.Views.{view-set_host}
use Rattle.hw_undo.proofs.hosts.set_row.Goals as goal

pub returns-clause-view : goal.returns-clause-view
returns-clause-view g c =
    let sound = g.met.C.HwSwitch.sound c.args.chip.now in
    let row = host-there (g.C.HwSwitch.raw c.args.chip.now) _ _ c.requires.there c.slot_at-slot.ensures in
    view-set_host (g.C.HwSwitch.raw c.args.chip.now) _ _ _ row.0 _ sound.rows row.1 c.set_host-old.ensures.raw

pub returns-clause-noted : goal.returns-clause-noted
returns-clause-noted g c =
    let row = host-there (g.C.HwSwitch.raw c.args.chip.now) _ _ c.requires.there c.slot_at-slot.ensures in
    let old = host-replaced _ _ row.0 c.set_host-old.result row.1 c.set_host-old.ensures.old in
    noted-one _ _ _ (λ groups are. undoes-set_host groups _ (g.C.HwSwitch.raw c.args.chip.now) _ _ (c.args.key.now, c.set_host-old.result) _ c.set_host-old.ensures.raw old) c.note.ensures.items c.set_host-old.ensures.caps c.set_host-old.ensures.writes c.note.ensures.len c.note.ensures.room
