use Rattle.std.proofs.Common.{length}
use Rattle.std.specs.List.{filter}
use Rattle.state_keys.specs.PartKeys.{rib_of}
use Rattle.state_scan.specs.Listed.{listed}
use Rattle.switch_model.specs.Looking.{is_past}
use Rattle.fib_refresh.proofs.ScanLaws.{IsLevelling}
use Rattle.fib_refresh.proofs.affected.next_level.Given as goal

abbrev pub invariant-loop-key : goal.invariant-loop-key
invariant-loop-key l = IsLevelling (listed rib_of l.routes.entries) l.fn.keys l.last l.level

abbrev pub decreases-loop-key : goal.decreases-loop-key
decreases-loop-key l = length (filter (is_past l.last) l.fn.keys)
