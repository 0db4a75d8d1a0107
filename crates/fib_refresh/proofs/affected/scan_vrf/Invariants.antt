use Rattle.fib_refresh.proofs.ScanLaws.{IsScanning}
use Rattle.fib_refresh.proofs.affected.scan_vrf.Given as goal

abbrev pub invariant-loop-number : goal.invariant-loop-number
invariant-loop-number l = IsScanning l.fn.routes.entries l.number-iterator l.keys l.vrf l.fn.level l.level
