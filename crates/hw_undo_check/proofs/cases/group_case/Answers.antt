use Rattle.hw_undo_check.proofs.May.{may-group}
use Rattle.hw_undo_check.proofs.cases.group_case.Goals as goal

pub returns : goal.returns
returns c = rw (c.in_ok-five_hosts.ensures, c.in_ok-host_goes.ensures, c.in_ok-four_pairs.ensures, c.new.ensures, c.new-2.ensures) may-group
