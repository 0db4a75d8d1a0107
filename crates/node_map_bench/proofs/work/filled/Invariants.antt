use Rattle.node_map.specs.Follows.{IsMadeBy}
use Rattle.node_map_bench.proofs.work.filled.Given as goal

abbrev pub invariant-loop-step : goal.invariant-loop-step
invariant-loop-step l = IsMadeBy 1 l.map.nodes
