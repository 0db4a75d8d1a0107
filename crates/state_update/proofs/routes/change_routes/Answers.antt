use Rattle.node_map.proofs.Touching.{paths_weaker}
use Rattle.switch_state.specs.Plain.{plain}
use Rattle.state_update.proofs.Keeping.{only_key, rest_as, routes_keep}
use Rattle.state_update.proofs.Renewing.{lost_births, renewed_births}
use Rattle.state_update.proofs.routes.change_routes.Goals as goal

pub returns-in-RouteSet-clause-rest : goal.returns-in-RouteSet-clause-rest
returns-in-RouteSet-clause-rest c = rest_as (plain c.args.edit.now.state) c.args.act.now _ c.args.edit.now c.put_route.new.edit c.in-RouteSet.is (routes_keep c.args.edit.now c.put_route.new.edit c.put_route.ensures.others (record { births = renewed_births c.put_route.ensures.births; paths = paths_weaker (only_key _) c.put_route.ensures.paths; born = c.put_route.ensures.born }))

pub returns-in-RouteDel-clause-rest : goal.returns-in-RouteDel-clause-rest
returns-in-RouteDel-clause-rest c = rest_as (plain c.args.edit.now.state) c.args.act.now _ c.args.edit.now c.cut_route.new.edit c.in-RouteDel.is (routes_keep c.args.edit.now c.cut_route.new.edit c.cut_route.ensures.others (record { births = lost_births c.cut_route.ensures.births; paths = paths_weaker (only_key _) c.cut_route.ensures.paths; born = c.cut_route.ensures.born }))
