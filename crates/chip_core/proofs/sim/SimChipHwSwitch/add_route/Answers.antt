use Rattle.std.proofs.Common.{◌∙◌, sym, subst, ap}
use Rattle.keyed.specs.Keyed.{put}
use Rattle.net_types.specs.Derived.{route-derived}
use Rattle.chip_core.specs.Chip.{AreLinked}
use Rattle.chip_core.specs.LinkLaws.{linked-put_route}
use Rattle.chip_core.specs.Sim.{Contents, tables_of}
use Rattle.chip_core.proofs.sim.SimChipHwSwitch.add_route.Goals as goal

pub invariant_of-self : goal.invariant_of-self
invariant_of-self c =
    let old = c.args.self.now in
    let all : Contents = record { l2 = old.l2.rows; host = old.hosts.rows; group = old.groups.rows; route = old.routes.rows } in
    let is = c.put.ensures.rows ∙ ap (λ cmp. put cmp c.args.key c.args.row old.routes.rows) route-derived in
    record { l2_sorted = old.l2_sorted; routes_sorted = c.put.ensures.sorted; hosts_slotted = old.hosts_slotted; groups_slotted = old.groups_slotted; linked = subst (λ routes. AreLinked (tables_of (record all { route = routes }))) (sym is) (linked-put_route all old.linked c.args.key c.args.row c.requires.held) }
