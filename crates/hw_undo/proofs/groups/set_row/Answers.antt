use Rattle.std.proofs.Common.{◌∙◌, Some, ap, length, sym}
use Rattle.hw_undo.proofs.Leads.{group-there, listed-as}
use Rattle.hw_undo.proofs.RollBack.{noted-one}
use Rattle.chip_core.specs.MemberSlots.{keys-slots, row-slots, slots-length}
use Rattle.hw_undo.proofs.Undoing.{undoes-set_group}
use Rattle.hw_undo.proofs.Views.{view-set_group}
use Rattle.hw_undo.proofs.groups.set_row.Goals as goal

pub row_of-requires-clause-marked : goal.row_of-requires-clause-marked
row_of-requires-clause-marked g c = ap length c.as_slice.ensures.value ∙ slots-length _ _ c.args.keys.now c.slots_at-slot.ensures.hosts ∙ sym c.requires.marked

pub set_group-requires : goal.set_group-requires
set_group-requires g c = c.slots_at-slot.ensures.group ∙ ap Some (sym (c.row_of.ensures.key ∙ c.as_slice.ensures.value))

pub returns-clause-view : goal.returns-clause-view
returns-clause-view g c =
    let sound = g.met.C.HwSwitch.sound c.args.chip.now in
    let found = group-there (g.C.HwSwitch.raw c.args.chip.now) c.args.keys.now _ _ c.slots_at-slot.ensures.hosts c.slots_at-slot.ensures.group in
    let own = row-slots _ c.row_of.result _ _ c.args.keys.now c.row_of.ensures.key c.as_slice.ensures.value c.slots_at-slot.ensures.hosts in
    view-set_group (g.C.HwSwitch.raw c.args.chip.now) _ _ found.members c.row_of.result c.args.keys.now c.args.marks.now sound.rows found.there found.named (keys-slots _ c.row_of.result c.args.keys.now own) c.row_of.ensures.marks c.set_group.ensures.raw

pub returns-clause-noted : goal.returns-clause-noted
returns-clause-noted g c =
    let sound = g.met.C.HwSwitch.sound c.args.chip.now in
    let raw = g.C.HwSwitch.raw c.args.chip.now in
    let found = group-there raw c.args.keys.now _ _ c.slots_at-slot.ensures.hosts c.slots_at-slot.ensures.group in
    noted-one _ _ _ (λ groups listed. undoes-set_group groups _ raw _ _ c.args.keys.now found.members sound found.there found.named (listed-as raw _ found.members c.args.keys.now sound.rows found.there found.named groups _ listed) _ c.row_of.result c.set_group.ensures.raw (c.row_of.ensures.key ∙ c.as_slice.ensures.value ∙ sym found.hosts)) c.note.ensures.items c.set_group.ensures.caps c.set_group.ensures.writes c.note.ensures.len c.note.ensures.room
