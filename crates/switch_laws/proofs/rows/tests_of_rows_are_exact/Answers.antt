use Rattle.switch_laws.proofs.DifferLaws.{host_decides, l2_decides, marks_decide, target_decides}
use Rattle.switch_laws.proofs.rows.tests_of_rows_are_exact.Goals as goal

pub returns-clause-l2 : goal.returns-clause-l2
returns-clause-l2 c = l2_decides

pub returns-clause-host : goal.returns-clause-host
returns-clause-host c = host_decides

pub returns-clause-group : goal.returns-clause-group
returns-clause-group c = marks_decide

pub returns-clause-route : goal.returns-clause-route
returns-clause-route c = target_decides
