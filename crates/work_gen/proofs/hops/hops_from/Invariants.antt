use Rattle.std.proofs.Common.{◌≡◌, ◌+◌, ◌-◌, ◌++◌}
use Rattle.work_gen.specs.Values.{hops_from}
use Rattle.work_gen.proofs.hops.hops_from.Given as goal

abbrev pub invariant-loop-place : goal.invariant-loop-place
invariant-loop-place l = l.hops ++ hops_from (l.fn.count - l.place) l.fn.b (l.fn.d + l.place) ≡ hops_from l.fn.count l.fn.b l.fn.d
