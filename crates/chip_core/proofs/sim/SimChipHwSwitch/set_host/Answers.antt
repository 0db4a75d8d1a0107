use Rattle.std.proofs.Common.{◌∙◌, sym, ap, subst}
use Rattle.std.specs.Option.{option_map}
use Rattle.std.specs.Ordering.{nat_cmp}
use Rattle.keyed.specs.Keyed.{at}
use Rattle.net_types.specs.declared.table.HostKey.{HostKey}
use Rattle.net_types.specs.declared.table.HostRow.{HostRow}
use Rattle.chip_core.specs.Chip.{AreLinked}
use Rattle.chip_core.specs.LinkLaws.{linked-put_host}
use Rattle.chip_core.specs.Sim.{Contents, tables_of}
use Rattle.chip_core.specs.SlotsLaws.{host_at-rows}
use Rattle.chip_core.proofs.RawLaws.{raw-set_host, there_as, none_there}
use Rattle.chip_core.proofs.sim.SimChipHwSwitch.set_host.Goals as goal

pub unreachable-requires : goal.unreachable-requires
unreachable-requires c =
    let there = there_as c.args.slot c.args.self.now.hosts.rows c.requires in
    none_there (at nat_cmp c.args.slot c.args.self.now.hosts.rows) there (sym c.get.ensures ∙ sym c.copied.ensures ∙ c.in_default.is)

pub invariant_of-self : goal.invariant_of-self
invariant_of-self c =
    let old = c.args.self.now in
    let all : Contents = record { l2 = old.l2.rows; host = old.hosts.rows; group = old.groups.rows; route = old.routes.rows } in
    record { l2_sorted = old.l2_sorted; routes_sorted = old.routes_sorted; hosts_slotted = c.set-old.ensures.slotted; groups_slotted = old.groups_slotted; linked = subst (λ hosts. AreLinked (tables_of (record all { host = hosts }))) (sym c.set-old.ensures.rows) (linked-put_host all old.linked c.args.slot (c.in-Some.key, c.args.row)) }

pub returns-clause-raw : goal.returns-clause-raw
returns-clause-raw c =
    let old = c.args.self.now in
    let all : Contents = record { l2 = old.l2.rows; host = old.hosts.rows; group = old.groups.rows; route = old.routes.rows } in
    let there = sym c.get.ensures ∙ sym c.copied.ensures ∙ c.in-Some.is in
    raw-set_host all c.set-old.new.self.rows c.args.slot (c.in-Some.key, c.in-Some.field-0-1) c.args.row there c.set-old.ensures.rows

pub returns-clause-old : goal.returns-clause-old
returns-clause-old c = ap (option_map (λ (host : HostKey × HostRow). host.1)) (host_at-rows c.args.slot c.args.self.now.hosts.rows ∙ c.set-old.ensures.old)
