use Rattle.told_laws.proofs.ClosingLaws.{told_one}
use Rattle.told_laws.proofs.RunLaws.{keeps_new}
use Rattle.told_laws.proofs.ServingLaws.{serves_keep}
use Rattle.told_laws.proofs.callers.lines_keep_what_is_told.Goals as goal

pub returns-clause-first : goal.returns-clause-first
returns-clause-first c = keeps_new

pub returns-clause-line : goal.returns-clause-line
returns-clause-line c = serves_keep

pub returns-clause-last : goal.returns-clause-last
returns-clause-last c = told_one
