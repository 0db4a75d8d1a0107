use Rattle.std.proofs.Common.{◌≡◌, ◌++◌, drop, map}
use Rattle.switch_model.specs.Rows.{live}
use Rattle.switch_state.specs.Plain.{plain}
use Rattle.row_sources.proofs.group.marks_of.Given as goal

abbrev pub invariant-loop-host : goal.invariant-loop-host
invariant-loop-host l = l.marks ++ map (live (plain l.state)) (drop l.host-index l.hosts) ≡ map (live (plain l.state)) l.hosts
