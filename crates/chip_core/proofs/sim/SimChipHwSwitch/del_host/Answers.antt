use Rattle.std.proofs.Common.{◌∙◌, sym, subst}
use Rattle.chip_core.specs.Chip.{AreLinked}
use Rattle.chip_core.specs.LinkLaws.{linked-without_host}
use Rattle.chip_core.specs.Sim.{Contents, tables_of}
use Rattle.chip_core.specs.SlotsLaws.{host_at-rows}
use Rattle.chip_core.proofs.RawLaws.{raw-without_host, there_as}
use Rattle.chip_core.proofs.sim.SimChipHwSwitch.del_host.Goals as goal

pub cut-old-requires : goal.cut-old-requires
cut-old-requires c = there_as c.args.slot c.args.self.now.hosts.rows c.requires.there

pub invariant_of-self : goal.invariant_of-self
invariant_of-self c =
    let old = c.args.self.now in
    let all : Contents = record { l2 = old.l2.rows; host = old.hosts.rows; group = old.groups.rows; route = old.routes.rows } in
    record { l2_sorted = old.l2_sorted; routes_sorted = old.routes_sorted; hosts_slotted = c.cut-old.ensures.slotted; groups_slotted = old.groups_slotted; linked = subst (λ hosts. AreLinked (tables_of (record all { host = hosts }))) (sym c.cut-old.ensures.rows) (linked-without_host all old.linked c.args.slot old.hosts_slotted.ascends c.requires.unused) }

pub returns-clause-raw : goal.returns-clause-raw
returns-clause-raw c =
    let old = c.args.self.now in
    let all : Contents = record { l2 = old.l2.rows; host = old.hosts.rows; group = old.groups.rows; route = old.routes.rows } in
    raw-without_host all c.cut-old.new.self.rows c.args.slot c.cut-old.ensures.rows

pub returns-clause-old : goal.returns-clause-old
returns-clause-old c = host_at-rows c.args.slot c.args.self.now.hosts.rows ∙ c.cut-old.ensures.old
