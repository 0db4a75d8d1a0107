use Rattle.std.proofs.Common.{◌≡◌, take}
use Rattle.chip_rows.specs.BySlot.{host_keys}
use Rattle.chip_rows.proofs.hosts.host_keys.Given as goal

abbrev pub invariant-loop-host : goal.invariant-loop-host
invariant-loop-host l = l.keys.items ≡ host_keys (take l.host-index l.hosts)
