use Rattle.std.proofs.Common.{sym, subst}
use Rattle.node_map.specs.Follows.{IsMadeBy}
use Rattle.node_map.proofs.Trees.{contains_none}
use Rattle.node_map_bench.proofs.work.filled.Goals as goal

pub loop-step-init : goal.loop-step-init
loop-step-init c = subst (IsMadeBy 1) (sym c.new-map.ensures.nodes) (record { each = λ n h. absurd (contains_none n h) })
