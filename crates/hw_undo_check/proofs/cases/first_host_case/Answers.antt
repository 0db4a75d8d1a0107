use Rattle.hw_undo_check.proofs.May.{may-first_host}
use Rattle.hw_undo_check.proofs.cases.first_host_case.Goals as goal

pub returns : goal.returns
returns c = rw (c.in_ok-hosts_come.ensures, c.new.ensures, c.new-2.ensures, c.new-3.ensures, c.new-4.ensures, c.new-5.ensures, c.new-6.ensures, c.new-7.ensures) may-first_host
