use Rattle.std.proofs.Common.{◌≡◌, map, take}
use Rattle.chip_rows.proofs.hosts.rows_by_slot.Given as goal

abbrev pub invariant-loop-host : goal.invariant-loop-host
invariant-loop-host l = l.rows.items ≡ map (λ host. (host.1, host.2)) (take l.host-index l.hosts)
