use Rattle.chip_core.proofs.shape.are_linked.Goals as goal

pub returns : goal.returns
returns c = ((λ h. (c.are_groups_held.ensures.0 c.if-not-are_groups_held.false, c.are_routes_held.ensures.0 h)), (λ both. c.are_routes_held.ensures.1 both.1))
