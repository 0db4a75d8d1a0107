use Rattle.switch_laws.proofs.ClosedLaws.{rows-ascend, rows-closed, rows-groups}
use Rattle.switch_laws.proofs.rows.rows_are_closed.Goals as goal

pub returns-clause-closed : goal.returns-clause-closed
returns-clause-closed c = rows-closed

pub returns-clause-ascend : goal.returns-clause-ascend
returns-clause-ascend c = rows-ascend

pub returns-clause-groups : goal.returns-clause-groups
returns-clause-groups c = rows-groups
