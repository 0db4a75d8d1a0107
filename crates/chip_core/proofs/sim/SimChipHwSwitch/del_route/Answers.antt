use Rattle.std.proofs.Common.{◌∙◌, sym, subst, ap}
use Rattle.keyed.specs.Keyed.{without, Ascends}
use Rattle.net_types.specs.Derived.{route-derived}
use Rattle.chip_core.specs.Chip.{AreLinked}
use Rattle.chip_core.specs.LinkLaws.{linked-without_route}
use Rattle.chip_core.specs.Sim.{Contents, tables_of}
use Rattle.chip_core.proofs.sim.SimChipHwSwitch.del_route.Goals as goal

pub invariant_of-self : goal.invariant_of-self
invariant_of-self c =
    let old = c.args.self.now in
    let all : Contents = record { l2 = old.l2.rows; host = old.hosts.rows; group = old.groups.rows; route = old.routes.rows } in
    let is = c.cut-old.ensures.rows ∙ ap (λ cmp. without cmp c.args.key.now old.routes.rows) route-derived in
    let asc = subst (λ cmp. Ascends cmp old.routes.rows) route-derived old.routes_sorted.ascends in
    record { l2_sorted = old.l2_sorted; routes_sorted = c.cut-old.ensures.sorted; hosts_slotted = old.hosts_slotted; groups_slotted = old.groups_slotted; linked = subst (λ routes. AreLinked (tables_of (record all { route = routes }))) (sym is) (linked-without_route all old.linked c.args.key.now asc) }
