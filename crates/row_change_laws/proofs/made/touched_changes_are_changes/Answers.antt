use Rattle.row_change_laws.proofs.MadeLaws.{touched_made, touched_plain}
use Rattle.row_change_laws.proofs.made.touched_changes_are_changes.Goals as goal

pub returns-clause-between : goal.returns-clause-between
returns-clause-between c = touched_made

pub returns-clause-plain : goal.returns-clause-plain
returns-clause-plain c = touched_plain
