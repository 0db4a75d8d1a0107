use Rattle.state_delta.proofs.Cutting.{leaf_aside, branch_aside, branch_at}
use Rattle.state_delta.proofs.cut.cut.Goals as goal

pub aside-requires : goal.aside-requires
aside-requires g c = leaf_aside c.in-Leaf.ensures c.requires

pub aside-requires-else-is_same : goal.aside-requires-else-is_same
aside-requires-else-is_same g c = branch_aside c.args.tree.now c.in-Branch.ensures.0 c.is_same.ensures c.if-is_same.false c.requires

pub returns-then-is_same : goal.returns-then-is_same
returns-then-is_same g c = branch_at c.in-Branch.left c.in-Branch.right c.in-Branch.ensures.0 c.in-Branch.ensures.1 c.is_same.ensures c.if-is_same.true
