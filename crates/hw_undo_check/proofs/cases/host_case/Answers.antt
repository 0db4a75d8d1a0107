use Rattle.hw_undo_check.proofs.May.{may-host}
use Rattle.hw_undo_check.proofs.cases.host_case.Goals as goal

pub returns : goal.returns
returns c = rw (c.in_ok-one_host.ensures, c.in_ok-hosts_come_and_go.ensures, c.new.ensures, c.new-2.ensures, c.new-3.ensures) may-host
