use Rattle.std.proofs.Common.{take}
use Rattle.chip_core.specs.Slots.{host_entries}
use Rattle.chip_core.specs.Tables.{MembersHeld}
use Rattle.chip_core.proofs.shape.are_groups_held.Given as goal

abbrev pub invariant-loop-group : goal.invariant-loop-group
invariant-loop-group l = MembersHeld (host_entries l.hosts) (take l.group-index l.groups)
