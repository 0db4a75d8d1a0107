use Rattle.switch_model.specs.Rows.{rows}
use Rattle.switch_state.specs.Plain.{plain}
use Rattle.core_published.proofs.FirstRows.{first_changes}
use Rattle.core_published.proofs.parts.first_rows.Goals as goal

pub returns : goal.returns
returns c = record { changes = first_changes (rows (plain c.args.state.now)) c.in_ok-changes.changes c.in_ok-changes.ensures.old c.in_ok-changes.ensures.new c.in_ok-changes.ensures.closed c.in_ok-changes.ensures.count }
