use Rattle.std.proofs.Common.{refl, arith, ◌∙◌}
use Rattle.net_types.specs.KeyOrder.{host_cmp, host_order}
use Rattle.net_types.specs.Rows.{Rows}
use Rattle.chip_core.specs.Chip.{view_of}
use Rattle.hw_undo.proofs.ChangeLaws.{full-put}
use Rattle.hw_undo.proofs.Leads.{host-absent}
use Rattle.hw_undo.proofs.RollBack.{noted-one, noted-none}
use Rattle.hw_undo.proofs.Undoing.{undoes-added_host, unused-free_host}
use Rattle.hw_undo.proofs.Views.{counted, view-put_host}
use Rattle.hw_undo.proofs.hosts.put_row.Goals as goal

pub add_host-requires : goal.add_host-requires
add_host-requires g c = host-absent (g.C.HwSwitch.raw c.args.chip.now) _ c.requires.absent

pub returns-in-Ok-clause-view : goal.returns-in-Ok-clause-view
returns-in-Ok-clause-view g c =
    let sound = g.met.C.HwSwitch.sound c.args.chip.now in
    let free = c.in-Ok.ensures.slot.free in
    view-put_host (g.C.HwSwitch.raw c.args.chip.now) _ _ _ _ sound.rows (unused-free_host _ _ _ sound free) free c.requires.absent c.in-Ok.ensures.ok

pub returns-in-Ok-clause-noted : goal.returns-in-Ok-clause-noted
returns-in-Ok-clause-noted g c =
    let sound = g.met.C.HwSwitch.sound c.args.chip.now in
    noted-one _ _ _ (λ groups are. undoes-added_host groups _ (g.C.HwSwitch.raw c.args.chip.now) _ _ _ _ sound c.in-Ok.ensures.ok c.in-Ok.ensures.slot.free) c.note.ensures.items c.in-Ok.ensures.caps c.in-Ok.ensures.writes c.note.ensures.len c.note.ensures.room

pub returns-in-Err-clause-full : goal.returns-in-Err-clause-full
returns-in-Err-clause-full g c =
    let sound = g.met.C.HwSwitch.sound c.args.chip.now in
    let rows : Rows = view_of (g.C.HwSwitch.raw c.args.chip.now) in
    full-put host_cmp host_order _ _ _ rows.host c.requires.absent ((counted (g.C.HwSwitch.raw c.args.chip.now) sound.rows).host ∙ c.in-Err.ensures.full.0 refl)

pub returns-in-Err-clause-none : goal.returns-in-Err-clause-none
returns-in-Err-clause-none g c = noted-none _ _ c.in-Err.ensures.err refl c.in-Err.ensures.caps c.in-Err.ensures.writes refl (omega arith)
