use Rattle.switch_laws.proofs.DifferLaws.{differ-none, differ-turned, differ-zero}
use Rattle.switch_laws.proofs.rows.only_other_rows_differ.Goals as goal

pub returns-clause-none : goal.returns-clause-none
returns-clause-none c = differ-none

pub returns-clause-zero : goal.returns-clause-zero
returns-clause-zero c = differ-zero

pub returns-clause-turned : goal.returns-clause-turned
returns-clause-turned c = differ-turned
