use Rattle.row_change_laws.proofs.MadeLaws.{rows_added}
use Rattle.row_change_laws.proofs.made.added_rows_are_changes.Goals as goal

pub returns : goal.returns
returns c = rows_added
