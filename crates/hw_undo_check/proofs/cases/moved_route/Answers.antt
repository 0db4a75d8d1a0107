use Rattle.std.proofs.Common.{refl}
use Rattle.hw_undo_check.proofs.cases.moved_route.Goals as goal

pub returns : goal.returns
returns c = rw (c.route_of-route.ensures, c.in_ok-old.ensures, c.in_ok-new.ensures) refl
