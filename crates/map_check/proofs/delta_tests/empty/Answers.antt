use Rattle.std.proofs.Common.{sym, subst}
use Rattle.node_map.specs.Follows.{IsMadeBy}
use Rattle.node_map.proofs.Trees.{contains_none}
use Rattle.map_check.proofs.delta_tests.empty.Goals as goal

pub returns : goal.returns
returns c = subst (IsMadeBy 0) (sym c.new.ensures.nodes) (record { each = λ n h. absurd (contains_none n h) })
