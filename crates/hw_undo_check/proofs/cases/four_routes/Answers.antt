use Rattle.std.proofs.Common.{refl}
use Rattle.hw_undo_check.proofs.cases.four_routes.Goals as goal

pub list_of-requires : goal.list_of-requires
list_of-requires c =
    let items = rw (c.route_of-first.ensures, c.route_of-second.ensures, c.route_of-third.ensures, c.route_of-fourth.ensures) at c.in_ok-vec.ensures.items in
    rw items (refl, (refl, (refl, (tt, tt))))

pub returns : goal.returns
returns c =
    let items = rw (c.route_of-first.ensures, c.route_of-second.ensures, c.route_of-third.ensures, c.route_of-fourth.ensures) at c.in_ok-vec.ensures.items in
    rw items at c.list_of.ensures
