use Rattle.std.proofs.Common.{◌∙◌, sym, subst}
use Rattle.chip_core.specs.Chip.{AreLinked}
use Rattle.chip_core.specs.LinkLaws.{linked-put_host}
use Rattle.chip_core.specs.Sim.{Contents, tables_of}
use Rattle.chip_core.specs.SlotsLaws.{lowest-rows}
use Rattle.chip_core.proofs.RawLaws.{found_as, raw-put_host}
use Rattle.chip_core.proofs.sim.SimChipHwSwitch.add_host.Goals as goal

pub add-slot-requires-clause-absent : goal.add-slot-requires-clause-absent
add-slot-requires-clause-absent c = sym (found_as c.args.key c.args.self.now.hosts.rows) ∙ c.requires

pub invariant_of-self : goal.invariant_of-self
invariant_of-self c =
    let old = c.args.self.now in
    let all : Contents = record { l2 = old.l2.rows; host = old.hosts.rows; group = old.groups.rows; route = old.routes.rows } in
    record { l2_sorted = old.l2_sorted; routes_sorted = old.routes_sorted; hosts_slotted = c.add-slot.ensures.slotted; groups_slotted = old.groups_slotted; linked = subst (λ hosts. AreLinked (tables_of (record all { host = hosts }))) (sym c.add-slot.ensures.rows) (linked-put_host all old.linked c.add-slot.result (c.args.key, c.args.row)) }

pub returns-clause-slot : goal.returns-clause-slot
returns-clause-slot c = lowest-rows c.add-slot.result c.args.self.now.hosts.rows c.add-slot.ensures.slot

pub returns-clause-ok : goal.returns-clause-ok
returns-clause-ok c =
    let old = c.args.self.now in
    let all : Contents = record { l2 = old.l2.rows; host = old.hosts.rows; group = old.groups.rows; route = old.routes.rows } in
    raw-put_host all c.add-slot.new.self.rows c.add-slot.result c.args.key c.args.row c.add-slot.ensures.rows
