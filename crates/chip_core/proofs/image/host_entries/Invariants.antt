use Rattle.std.proofs.Common.{◌≡◌, take}
use Rattle.chip_core.specs.Slots.{host_entries}
use Rattle.chip_core.proofs.image.host_entries.Given as goal

abbrev pub invariant-loop-host : goal.invariant-loop-host
invariant-loop-host l = l.entries.items ≡ host_entries (take l.host-index l.hosts)
