use Rattle.std.proofs.Common.{◌≡◌, take}
use Rattle.chip_rows.specs.BySlot.{group_keys, group_rows}
use Rattle.chip_rows.proofs.groups.GroupLists.of.Given as goal

abbrev pub invariant-loop-group : goal.invariant-loop-group
invariant-loop-group l = record {
  by_slot : l.lists.by_slot.items ≡ group_keys l.keys (take l.group-index l.groups);
  rows : l.lists.rows.items ≡ group_rows l.keys (take l.group-index l.groups);
}
