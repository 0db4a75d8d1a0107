use Rattle.std.proofs.Common.{Some, ap, sym, ◌∙◌}
use Rattle.switch_model.specs.declared.look.Best.{Best}
use Rattle.switch_model.specs.Looking.{best_route}
use Rattle.switch_model.specs.Reach.{lead_of_match}
use Rattle.nexthop_resolve.proofs.lead.lead_by.Goals as goal

pub returns-in-Route : goal.returns-in-Route
returns-in-Route c = c.lead_along.ensures c.args.ip c.in-Route.field-0 ∙ ap (λ (b : Best). lead_of_match c.args.ip (Some (c.args.prefix, best_route b))) (sym c.in-Route.is)
