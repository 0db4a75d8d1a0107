use Rattle.row_change_laws.proofs.ClosedChanges.{closed_changes, group_changes}
use Rattle.row_change_laws.proofs.between.changes_of_states_are_closed.Goals as goal

pub returns-clause-closed : goal.returns-clause-closed
returns-clause-closed c = closed_changes

pub returns-clause-groups : goal.returns-clause-groups
returns-clause-groups c = group_changes
