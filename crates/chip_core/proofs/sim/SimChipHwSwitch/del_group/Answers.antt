use Rattle.std.proofs.Common.{sym, subst}
use Rattle.chip_core.specs.Chip.{AreLinked}
use Rattle.chip_core.specs.LinkLaws.{linked-without_group}
use Rattle.chip_core.specs.Sim.{Contents, tables_of}
use Rattle.chip_core.proofs.sim.SimChipHwSwitch.del_group.Goals as goal

pub invariant_of-self : goal.invariant_of-self
invariant_of-self c =
    let old = c.args.self.now in
    let all : Contents = record { l2 = old.l2.rows; host = old.hosts.rows; group = old.groups.rows; route = old.routes.rows } in
    record { l2_sorted = old.l2_sorted; routes_sorted = old.routes_sorted; hosts_slotted = old.hosts_slotted; groups_slotted = c.cut-old.ensures.slotted; linked = subst (λ groups. AreLinked (tables_of (record all { group = groups }))) (sym c.cut-old.ensures.rows) (linked-without_group all old.linked c.args.slot old.groups_slotted.ascends c.requires.unused) }
