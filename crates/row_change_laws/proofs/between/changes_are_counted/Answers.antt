use Rattle.row_change_laws.proofs.BetweenLaws.{rows_counted, rows_written}
use Rattle.row_change_laws.proofs.between.changes_are_counted.Goals as goal

pub returns-clause-count : goal.returns-clause-count
returns-clause-count c = rows_counted

pub returns-clause-writes : goal.returns-clause-writes
returns-clause-writes c = rows_written
