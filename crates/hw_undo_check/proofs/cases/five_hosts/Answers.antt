use Rattle.std.proofs.Common.{◌∙◌}
use Rattle.hw_undo_check.proofs.cases.five_hosts.Goals as goal

pub returns : goal.returns
returns c =
    let items = rw (c.host_of-first.ensures, c.host_of-second.ensures, c.host_of-third.ensures, c.host_of-fourth.ensures, c.host_of-last.ensures, c.host_row-row.ensures) at c.in_ok-vec.ensures.items in
    let hosts = c.from_vec.ensures ∙ items in
    λ i. record { l2 = c.new.ensures i; host = hosts i; group = c.new-2.ensures i; route = c.new-3.ensures i }
