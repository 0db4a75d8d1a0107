use Rattle.std.proofs.Common.{sym}
use Rattle.hw_undo.proofs.Leads.{host-found, host-missed}
use Rattle.hw_undo.proofs.hosts.slot_at.Goals as goal

pub unreachable-requires : goal.unreachable-requires
unreachable-requires g c = host-missed (g.C.HwSwitch.raw c.args.chip.now) _ c.requires (sym c.in-None.ensures)

pub returns : goal.returns
returns g c =
    let sound = g.met.C.HwSwitch.sound c.args.chip.now in
    host-found (g.C.HwSwitch.raw c.args.chip.now) _ _ sound.rows (sym c.in-Some.ensures)
