use Rattle.chip_core.specs.ListLaws.{some}
use Rattle.std.proofs.Common.{◌∙◌, ap, arith, length, sym}
use Rattle.net_types.specs.declared.table.HopTarget.TheVariants.{Group as HopGroup}
use Rattle.hw_undo.proofs.Leads.{group-few, group-there, host-there, target-group, target-host}
use Rattle.hw_undo.proofs.routes.row_of.Goals as goal

pub returns-in-Host-clause-target : goal.returns-in-Host-clause-target
returns-in-Host-clause-target g c =
    let known = rw c.in-Host.is at c.requires in
    let row = host-there (g.C.HwSwitch.raw c.args.chip.now) _ _ known c.slot_at.ensures in
    target-host (g.C.HwSwitch.raw c.args.chip.now) _ _ row.0 row.1 ∙ sym c.in-Host.is

pub returns-in-Host-clause-held : goal.returns-in-Host-clause-held
returns-in-Host-clause-held g c =
    let known = rw c.in-Host.is at c.requires in
    let row = host-there (g.C.HwSwitch.raw c.args.chip.now) _ _ known c.slot_at.ensures in
    some _ _ row.1

pub slots_at-requires-clause-few : goal.slots_at-requires-clause-few
slots_at-requires-clause-few g c =
    let sound = g.met.C.HwSwitch.sound c.args.chip.now in
    let known = rw c.in-Group.is at c.requires in
    omega (arith, ap length (c.as_slice.ensures ∙ c.deref.ensures), group-few (g.C.HwSwitch.raw c.args.chip.now) c.in-Group.keys sound.rows known)

pub returns-in-Group-clause-target : goal.returns-in-Group-clause-target
returns-in-Group-clause-target g c =
    let found = group-there (g.C.HwSwitch.raw c.args.chip.now) c.as_slice.result.now _ _ c.slots_at.ensures.hosts c.slots_at.ensures.group in
    target-group (g.C.HwSwitch.raw c.args.chip.now) _ found.members _ found.there found.named ∙ ap HopGroup (c.as_slice.ensures ∙ c.deref.ensures) ∙ sym c.in-Group.is

pub returns-in-Group-clause-held : goal.returns-in-Group-clause-held
returns-in-Group-clause-held g c =
    let found = group-there (g.C.HwSwitch.raw c.args.chip.now) c.as_slice.result.now _ _ c.slots_at.ensures.hosts c.slots_at.ensures.group in
    some _ found.members found.there
