use Rattle.std.proofs.Common.{refl}
use Rattle.hw_undo_check.proofs.cases.hosts_come_and_go.Goals as goal

pub list_of-requires : goal.list_of-requires
list_of-requires c =
    let items = rw (c.host_of-first.ensures, c.host_of-second.ensures, c.host_of-third.ensures, c.host_of-fourth.ensures, c.host_of-last.ensures, c.host_row-row.ensures) at c.in_ok-vec.ensures.items in
    rw items (refl, (refl, (refl, (refl, (tt, tt)))))

pub returns : goal.returns
returns c =
    let items = rw (c.host_of-first.ensures, c.host_of-second.ensures, c.host_of-third.ensures, c.host_of-fourth.ensures, c.host_of-last.ensures, c.host_row-row.ensures) at c.in_ok-vec.ensures.items in
    rw items at c.list_of.ensures
