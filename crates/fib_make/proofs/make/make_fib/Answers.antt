use Rattle.std.proofs.Common.{sym, subst}
use Rattle.std.specs.List.{All}
use Rattle.node_map.specs.Map.{MapView}
use Rattle.switch_model.specs.declared.record.RouteRec.{RouteRec}
use Rattle.state_keys.specs.PartKeys.{IsRibNumber}
use Rattle.fib_make.proofs.make.make_fib.Goals as goal

pub of-view-requires-clause-routes : goal.of-view-requires-clause-routes
of-view-requires-clause-routes c = subst (λ (m : MapView RouteRec). All (λ e. IsRibNumber e.0) m.entries) (sym c.in_ok-routes.ensures) c.routes.ensures.part.numbers
