use Rattle.route_laws.proofs.NearestLaws.{best-is, is-best}
use Rattle.route_laws.proofs.routes.best_routes_are_nearest.Goals as goal

pub returns-clause-is : goal.returns-clause-is
returns-clause-is c = best-is

pub returns-clause-exact : goal.returns-clause-exact
returns-clause-exact c = λ rib order key route is. is-best rib key route order is
