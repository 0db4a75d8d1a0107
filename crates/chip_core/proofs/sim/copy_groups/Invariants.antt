use Rattle.std.proofs.Common.{◌≡◌, take}
use Rattle.chip_core.specs.Taken.{taken}
use Rattle.chip_core.proofs.sim.copy_groups.Given as goal

abbrev pub invariant-loop-slot : goal.invariant-loop-slot
invariant-loop-slot l = l.list ≡ taken 0 (take l.slot l.slots)
