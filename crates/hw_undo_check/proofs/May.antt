-- Each of the cases may be committed.
use Rattle.std.proofs.Common.{refl}
use Rattle.hw_undo_check.specs.Cases.{first_host_case, group_case, host_case, l2_case, moved_route_case, one_more_route_case, route_case, two_more_routes_case}
use Rattle.hw_undo_check.specs.Samples.{MayCommit}
use Rattle.hw_undo_check.proofs.Closed.{closed}

pub may-l2 : MayCommit l2_case.tables l2_case.changes
may-l2 = record { old = record { l2 = (refl, (refl, (refl, (refl, tt)))); host = (refl, tt); group = tt; route = tt }; closed = closed _ refl }

pub may-host : MayCommit host_case.tables host_case.changes
may-host = record { old = record { l2 = tt; host = (refl, (refl, (refl, (refl, (refl, tt))))); group = tt; route = tt }; closed = closed _ refl }

pub may-first_host : MayCommit first_host_case.tables first_host_case.changes
may-first_host = record { old = record { l2 = tt; host = (refl, (refl, (refl, (refl, tt)))); group = tt; route = tt }; closed = closed _ refl }

pub may-group : MayCommit group_case.tables group_case.changes
may-group = record { old = record { l2 = tt; host = (refl, tt); group = (refl, (refl, (refl, (refl, tt)))); route = tt }; closed = closed _ refl }

pub may-route : MayCommit route_case.tables route_case.changes
may-route = record { old = record { l2 = tt; host = (refl, tt); group = tt; route = (refl, (refl, (refl, (refl, tt)))) }; closed = closed _ refl }

pub may-two_more : MayCommit two_more_routes_case.tables two_more_routes_case.changes
may-two_more = record { old = record { l2 = tt; host = (refl, (refl, tt)); group = (refl, (refl, tt)); route = (refl, (refl, (refl, tt))) }; closed = closed _ refl }

pub may-one_more : MayCommit one_more_route_case.tables one_more_route_case.changes
may-one_more = record { old = record { l2 = tt; host = (refl, (refl, tt)); group = (refl, (refl, tt)); route = (refl, (refl, tt)) }; closed = closed _ refl }

pub may-moved : MayCommit moved_route_case.tables moved_route_case.changes
may-moved = record { old = record { l2 = tt; host = (refl, (refl, tt)); group = (refl, (refl, tt)); route = (refl, tt) }; closed = closed _ refl }
