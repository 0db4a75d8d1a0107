use Rattle.hw_undo_check.proofs.May.{may-route}
use Rattle.hw_undo_check.proofs.cases.route_case.Goals as goal

pub returns : goal.returns
returns c = rw (c.in_ok-one_host.ensures, c.in_ok-host_goes.ensures, c.in_ok-four_routes.ensures, c.new.ensures, c.new-2.ensures) may-route
