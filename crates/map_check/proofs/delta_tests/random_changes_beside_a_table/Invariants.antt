use Rattle.node_map.specs.Follows.{IsMadeBy}
use Rattle.map_check.proofs.delta_tests.random_changes_beside_a_table.Given as goal

abbrev pub invariant-loop-version : goal.invariant-loop-version
invariant-loop-version g l = IsMadeBy l.version l.map.nodes
