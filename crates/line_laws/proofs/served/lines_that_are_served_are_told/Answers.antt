use Rattle.line_laws.proofs.SightLaws.{sight_grew, sight_serves}
use Rattle.line_laws.proofs.served.lines_that_are_served_are_told.Goals as goal

pub returns-clause-grew : goal.returns-clause-grew
returns-clause-grew c = sight_grew

pub returns-clause-serves : goal.returns-clause-serves
returns-clause-serves c = sight_serves
