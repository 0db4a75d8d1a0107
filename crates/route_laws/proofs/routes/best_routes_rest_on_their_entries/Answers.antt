use Rattle.route_laws.proofs.NearestLaws.{best-same}
use Rattle.route_laws.proofs.routes.best_routes_rest_on_their_entries.Goals as goal

pub returns : goal.returns
returns c = record { same = best-same }
