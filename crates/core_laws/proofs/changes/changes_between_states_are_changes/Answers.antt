use Rattle.core_laws.proofs.ChangeLaws.{changes_are}
use Rattle.core_laws.proofs.changes.changes_between_states_are_changes.Goals as goal

pub returns : goal.returns
returns c = changes_are
