use Rattle.std.proofs.Common.{◌≡◌, take}
use Rattle.chip_core.specs.Slots.{host_rows}
use Rattle.chip_core.specs.Taken.{taken}
use Rattle.chip_core.proofs.sim.copy_hosts.Given as goal

abbrev pub invariant-loop-slot : goal.invariant-loop-slot
invariant-loop-slot l = l.list ≡ host_rows (taken 0 (take l.slot l.slots))
