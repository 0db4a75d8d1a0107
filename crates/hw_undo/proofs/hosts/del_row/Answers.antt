use Rattle.hw_undo.proofs.Leads.{host-there, host-unused}
use Rattle.hw_undo.proofs.RollBack.{noted-one}
use Rattle.hw_undo.proofs.Undoing.{undoes-removed_host}
use Rattle.hw_undo.proofs.Views.{view-without_host}
use Rattle.hw_undo.proofs.hosts.del_row.Goals as goal

pub del_host-old_key-requires-clause-unused : goal.del_host-old_key-requires-clause-unused
del_host-old_key-requires-clause-unused g c =
    let sound = g.met.C.HwSwitch.sound c.args.chip.now in
    let row = host-there (g.C.HwSwitch.raw c.args.chip.now) _ _ c.requires.there c.slot_at-slot.ensures in
    host-unused (g.C.HwSwitch.raw c.args.chip.now) _ _ row.0 sound.rows row.1 c.requires.closed

pub returns-clause-view : goal.returns-clause-view
returns-clause-view g c =
    let sound = g.met.C.HwSwitch.sound c.args.chip.now in
    let row = host-there (g.C.HwSwitch.raw c.args.chip.now) _ _ c.requires.there c.slot_at-slot.ensures in
    view-without_host (g.C.HwSwitch.raw c.args.chip.now) _ _ (c.args.key.now, row.0) sound.rows (host-unused (g.C.HwSwitch.raw c.args.chip.now) _ _ row.0 sound.rows row.1 c.requires.closed) row.1 c.del_host-old_key.ensures.raw

pub returns-clause-noted : goal.returns-clause-noted
returns-clause-noted g c =
    let sound = g.met.C.HwSwitch.sound c.args.chip.now in
    noted-one _ _ _ (λ groups are. undoes-removed_host groups _ (g.C.HwSwitch.raw c.args.chip.now) _ _ _ sound c.del_host-old_key.ensures.raw c.del_host-old_key.ensures.old) c.note.ensures.items c.del_host-old_key.ensures.caps c.del_host-old_key.ensures.writes c.note.ensures.len c.note.ensures.room
