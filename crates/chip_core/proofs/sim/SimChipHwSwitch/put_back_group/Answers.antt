use Rattle.std.proofs.Common.{sym, subst, ap, length}
use Rattle.net_types.specs.Groups.{IsGroupLength}
use Rattle.chip_core.specs.Chip.{AreLinked}
use Rattle.chip_core.specs.LinkLaws.{linked-put_group}
use Rattle.chip_core.specs.Sim.{Contents, tables_of}
use Rattle.chip_core.proofs.sim.SimChipHwSwitch.put_back_group.Goals as goal

pub invariant_of-self : goal.invariant_of-self
invariant_of-self c =
    let old = c.args.self.now in
    let all : Contents = record { l2 = old.l2.rows; host = old.hosts.rows; group = old.groups.rows; route = old.routes.rows } in
    let long = subst IsGroupLength (ap length c.members.ensures.value) c.members.ensures.range in
    record { l2_sorted = old.l2_sorted; routes_sorted = old.routes_sorted; hosts_slotted = old.hosts_slotted; groups_slotted = c.put_back.ensures.slotted; linked = subst (λ groups. AreLinked (tables_of (record all { group = groups }))) (sym c.put_back.ensures.rows) (linked-put_group all old.linked c.args.slot c.args.row long c.requires.held) }
