use Rattle.std.proofs.Common.{◌++◌, length}
use Rattle.std.specs.List.{filter}
use Rattle.switch_model.specs.LongestMatch.{best_keys}
use Rattle.switch_model.specs.Looking.{is_past}
use Rattle.switch_state.specs.Plain.{fib_entries}
use Rattle.fib_build.proofs.BuildLaws.{IsBuilt}
use Rattle.keyed.specs.Ranges.{keys_of}
use Rattle.fib_build.proofs.build.build_fib.Given as goal

abbrev pub invariant-loop-key : goal.invariant-loop-key
invariant-loop-key g l = IsBuilt (g.R.BestRoutes.rib l.routes) l.fn.edit l.last l.edit

abbrev pub decreases-loop-key : goal.decreases-loop-key
decreases-loop-key g l = length (filter (is_past l.last) (best_keys (g.R.BestRoutes.rib l.routes) ++ keys_of (fib_entries l.fn.edit.state)))
