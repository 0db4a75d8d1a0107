use Rattle.std.proofs.Common.{◌∙◌, ap, arith, length, refl, sym}
use Rattle.net_types.specs.KeyOrder.{group_cmp, group_order}
use Rattle.net_types.specs.Rows.{Rows}
use Rattle.chip_core.specs.Chip.{view_of}
use Rattle.hw_undo.proofs.ChangeLaws.{full-put}
use Rattle.hw_undo.proofs.Leads.{group-absent}
use Rattle.hw_undo.proofs.RollBack.{noted-none, noted-one}
use Rattle.chip_core.specs.MemberSlots.{held-slots, keys-slots, row-slots, slots-length}
use Rattle.hw_undo.proofs.Undoing.{undoes-added_group, unused-free_group}
use Rattle.hw_undo.proofs.Views.{counted, view-put_group}
use Rattle.hw_undo.proofs.groups.put_row.Goals as goal

pub row_of-requires-clause-marked : goal.row_of-requires-clause-marked
row_of-requires-clause-marked g c = ap length c.as_slice.ensures.value ∙ slots-length _ _ c.args.keys.now c.slots_of-slots.ensures ∙ sym c.requires.marked

pub add_group-requires-clause-absent : goal.add_group-requires-clause-absent
add_group-requires-clause-absent g c =
    let sound = g.met.C.HwSwitch.sound c.args.chip.now in
    group-absent (g.C.HwSwitch.raw c.args.chip.now) c.row_of.result c.args.keys.now sound.rows (row-slots _ c.row_of.result _ _ c.args.keys.now c.row_of.ensures.key c.as_slice.ensures.value c.slots_of-slots.ensures) c.requires.absent

pub add_group-requires-clause-held : goal.add_group-requires-clause-held
add_group-requires-clause-held g c = held-slots (g.C.HwSwitch.raw c.args.chip.now) c.row_of.result c.args.keys.now (row-slots _ c.row_of.result _ _ c.args.keys.now c.row_of.ensures.key c.as_slice.ensures.value c.slots_of-slots.ensures)

pub returns-in-Ok-clause-view : goal.returns-in-Ok-clause-view
returns-in-Ok-clause-view g c =
    let sound = g.met.C.HwSwitch.sound c.args.chip.now in
    let free = c.in-Ok.ensures.slot.free in
    let own = row-slots _ c.row_of.result _ _ c.args.keys.now c.row_of.ensures.key c.as_slice.ensures.value c.slots_of-slots.ensures in
    view-put_group (g.C.HwSwitch.raw c.args.chip.now) _ _ c.row_of.result c.args.keys.now c.args.marks.now sound.rows (unused-free_group _ _ _ sound free) free (keys-slots _ c.row_of.result c.args.keys.now own) c.row_of.ensures.marks c.requires.absent c.in-Ok.ensures.ok

pub returns-in-Ok-clause-noted : goal.returns-in-Ok-clause-noted
returns-in-Ok-clause-noted g c =
    let sound = g.met.C.HwSwitch.sound c.args.chip.now in
    noted-one _ _ _ (λ groups are. undoes-added_group groups _ (g.C.HwSwitch.raw c.args.chip.now) _ _ _ sound c.in-Ok.ensures.ok c.in-Ok.ensures.slot.free) c.note.ensures.items c.in-Ok.ensures.caps c.in-Ok.ensures.writes c.note.ensures.len c.note.ensures.room

pub returns-in-Err-clause-full : goal.returns-in-Err-clause-full
returns-in-Err-clause-full g c =
    let sound = g.met.C.HwSwitch.sound c.args.chip.now in
    let rows : Rows = view_of (g.C.HwSwitch.raw c.args.chip.now) in
    full-put group_cmp group_order _ _ _ rows.group c.requires.absent ((counted (g.C.HwSwitch.raw c.args.chip.now) sound.rows).group ∙ c.in-Err.ensures.full.0 refl)

pub returns-in-Err-clause-none : goal.returns-in-Err-clause-none
returns-in-Err-clause-none g c = noted-none _ _ c.in-Err.ensures.err refl c.in-Err.ensures.caps c.in-Err.ensures.writes refl (omega arith)
