use Rattle.chip_core.specs.ListLaws.{some}
use Rattle.hw_undo.proofs.Leads.{group-there, group-unused, listed-as}
use Rattle.hw_undo.proofs.RollBack.{noted-one}
use Rattle.hw_undo.proofs.Undoing.{undoes-removed_group}
use Rattle.hw_undo.proofs.Views.{view-without_group}
use Rattle.hw_undo.proofs.groups.del_row.Goals as goal

pub del_group-requires-clause-there : goal.del_group-requires-clause-there
del_group-requires-clause-there g c =
    let found = group-there (g.C.HwSwitch.raw c.args.chip.now) c.args.keys.now _ _ c.slots_at-slot.ensures.hosts c.slots_at-slot.ensures.group in
    some _ found.members found.there

pub del_group-requires-clause-unused : goal.del_group-requires-clause-unused
del_group-requires-clause-unused g c =
    let sound = g.met.C.HwSwitch.sound c.args.chip.now in
    let found = group-there (g.C.HwSwitch.raw c.args.chip.now) c.args.keys.now _ _ c.slots_at-slot.ensures.hosts c.slots_at-slot.ensures.group in
    group-unused (g.C.HwSwitch.raw c.args.chip.now) _ found.members c.args.keys.now sound.rows found.there found.named c.requires.closed

pub returns-clause-view : goal.returns-clause-view
returns-clause-view g c =
    let sound = g.met.C.HwSwitch.sound c.args.chip.now in
    let found = group-there (g.C.HwSwitch.raw c.args.chip.now) c.args.keys.now _ _ c.slots_at-slot.ensures.hosts c.slots_at-slot.ensures.group in
    let unused = group-unused (g.C.HwSwitch.raw c.args.chip.now) _ found.members c.args.keys.now sound.rows found.there found.named c.requires.closed in
    view-without_group (g.C.HwSwitch.raw c.args.chip.now) _ _ found.members c.args.keys.now sound.rows unused found.there found.named c.del_group.ensures.raw

pub returns-clause-noted : goal.returns-clause-noted
returns-clause-noted g c =
    let sound = g.met.C.HwSwitch.sound c.args.chip.now in
    let raw = g.C.HwSwitch.raw c.args.chip.now in
    let found = group-there raw c.args.keys.now _ _ c.slots_at-slot.ensures.hosts c.slots_at-slot.ensures.group in
    noted-one _ _ _ (λ groups listed. undoes-removed_group groups _ raw _ _ c.args.keys.now found.members sound found.there found.named (listed-as raw _ found.members c.args.keys.now sound.rows found.there found.named groups _ listed) _ c.del_group.ensures.raw) c.note.ensures.items c.del_group.ensures.caps c.del_group.ensures.writes c.note.ensures.len c.note.ensures.room
