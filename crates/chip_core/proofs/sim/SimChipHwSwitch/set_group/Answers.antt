use Rattle.std.proofs.Common.{◌≡◌, Option, Some, List, sym, subst}
use Rattle.std.specs.Option.{option_map}
use Rattle.std.specs.Ordering.{nat_cmp}
use Rattle.net_types.specs.declared.group.Member.{Member}
use Rattle.keyed.specs.Keyed.{at}
use Rattle.chip_core.specs.Chip.{AreLinked}
use Rattle.chip_core.specs.LinkLaws.{linked-set_group}
use Rattle.chip_core.specs.Sim.{Contents, tables_of}
use Rattle.net_types.specs.Groups.{group_key_of}
use Rattle.chip_core.proofs.sim.SimChipHwSwitch.set_group.Goals as goal

same_key : (o : Option (List Member)) (before row : List Member) → option_map group_key_of o ≡ Some (group_key_of row) → o ≡ Some before → group_key_of row ≡ group_key_of before
same_key o before row named is = let both : Some (group_key_of before) ≡ Some (group_key_of row) = rw is at named in cc

pub invariant_of-self : goal.invariant_of-self
invariant_of-self c =
    let old = c.args.self.now in
    let all : Contents = record { l2 = old.l2.rows; host = old.hosts.rows; group = old.groups.rows; route = old.routes.rows } in
    let same = same_key (at nat_cmp c.args.slot old.groups.rows) c.set-old.result c.args.row c.requires c.set-old.ensures.old in
    record { l2_sorted = old.l2_sorted; routes_sorted = old.routes_sorted; hosts_slotted = old.hosts_slotted; groups_slotted = c.set-old.ensures.slotted; linked = subst (λ groups. AreLinked (tables_of (record all { group = groups }))) (sym c.set-old.ensures.rows) (linked-set_group all old.linked c.args.slot c.set-old.result c.args.row c.set-old.ensures.old same) }
