use Rattle.hw_undo_check.proofs.May.{may-l2}
use Rattle.hw_undo_check.proofs.cases.l2_case.Goals as goal

pub returns : goal.returns
returns c = rw (c.in_ok-one_host.ensures, c.in_ok-four_stations.ensures, c.in_ok-host_goes.ensures, c.new.ensures, c.new-2.ensures) may-l2
