use Rattle.switch_laws.proofs.DifferLaws.{differ_counts}
use Rattle.switch_laws.proofs.rows.rows_that_differ_are_counted.Goals as goal

pub returns : goal.returns
returns c = differ_counts
