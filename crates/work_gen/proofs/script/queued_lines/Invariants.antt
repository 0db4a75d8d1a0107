use Rattle.std.proofs.Common.{◌≡◌, ◌+◌, ◌-◌, ◌++◌}
use Rattle.work_gen.specs.Generated.{generated_lines}
use Rattle.work_gen.proofs.LineLaws.{lines_left}
use Rattle.work_gen.proofs.script.queued_lines.Given as goal

abbrev pub invariant-loop-place : goal.invariant-loop-place
invariant-loop-place l = l.lines ++ lines_left (93 + l.place) (l.fn.count - l.place) l.rng ≡ generated_lines l.fn.seed l.fn.count
