use Rattle.std.proofs.Common.{◌∙◌, sym, subst}
use Rattle.chip_core.specs.Chip.{AreLinked}
use Rattle.chip_core.specs.LinkLaws.{linked-put_host}
use Rattle.chip_core.specs.Sim.{Contents, tables_of}
use Rattle.chip_core.specs.SlotsLaws.{host_at-rows}
use Rattle.chip_core.proofs.RawLaws.{found_as, raw-put_host}
use Rattle.chip_core.proofs.sim.SimChipHwSwitch.put_back_host.Goals as goal

pub put_back-requires-clause-absent : goal.put_back-requires-clause-absent
put_back-requires-clause-absent c = sym (found_as c.args.key c.args.self.now.hosts.rows) ∙ c.requires.absent

pub put_back-requires-clause-free : goal.put_back-requires-clause-free
put_back-requires-clause-free c = sym (host_at-rows c.args.slot c.args.self.now.hosts.rows) ∙ c.requires.free

pub invariant_of-self : goal.invariant_of-self
invariant_of-self c =
    let old = c.args.self.now in
    let all : Contents = record { l2 = old.l2.rows; host = old.hosts.rows; group = old.groups.rows; route = old.routes.rows } in
    record { l2_sorted = old.l2_sorted; routes_sorted = old.routes_sorted; hosts_slotted = c.put_back.ensures.slotted; groups_slotted = old.groups_slotted; linked = subst (λ hosts. AreLinked (tables_of (record all { host = hosts }))) (sym c.put_back.ensures.rows) (linked-put_host all old.linked c.args.slot (c.args.key, c.args.row)) }

pub returns-clause-raw : goal.returns-clause-raw
returns-clause-raw c =
    let old = c.args.self.now in
    let all : Contents = record { l2 = old.l2.rows; host = old.hosts.rows; group = old.groups.rows; route = old.routes.rows } in
    raw-put_host all c.put_back.new.self.rows c.args.slot c.args.key c.args.row c.put_back.ensures.rows
