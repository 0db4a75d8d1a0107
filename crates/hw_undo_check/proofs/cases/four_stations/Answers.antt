use Rattle.std.proofs.Common.{refl}
use Rattle.hw_undo_check.proofs.cases.four_stations.Goals as goal

pub list_of-requires : goal.list_of-requires
list_of-requires c =
    let items = rw (c.station_of-first.ensures, c.station_of-second.ensures, c.station_of-third.ensures, c.station_of-fourth.ensures, c.l2_row-row.ensures) at c.in_ok-vec.ensures.items in
    rw items (refl, (refl, (refl, (tt, tt))))

pub returns : goal.returns
returns c =
    let items = rw (c.station_of-first.ensures, c.station_of-second.ensures, c.station_of-third.ensures, c.station_of-fourth.ensures, c.l2_row-row.ensures) at c.in_ok-vec.ensures.items in
    rw items at c.list_of.ensures
