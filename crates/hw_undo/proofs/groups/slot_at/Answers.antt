use Rattle.std.proofs.Common.{sym}
use Rattle.hw_undo.proofs.Leads.{group-found, group-missed}
use Rattle.hw_undo.proofs.groups.slot_at.Goals as goal

pub unreachable-requires : goal.unreachable-requires
unreachable-requires g c =
    let sound = g.met.C.HwSwitch.sound c.args.chip.now in
    group-missed (g.C.HwSwitch.raw c.args.chip.now) c.args.keys.now c.args.slots.now sound.rows c.requires.there c.requires.slots (sym c.in-None.ensures)

pub returns : goal.returns
returns g c =
    let sound = g.met.C.HwSwitch.sound c.args.chip.now in
    group-found (g.C.HwSwitch.raw c.args.chip.now) _ _ sound.rows (sym c.in-Some.ensures)
