use Rattle.row_change_laws.specs.Between.{no_rows}
use Rattle.row_change_laws.specs.Made.{added_rows}
use Rattle.row_change_laws.proofs.BetweenLaws.{one_changes, rows_counted, rows_make, rows_old}
use Rattle.row_change_laws.proofs.MadeLaws.{rows_added}
use Rattle.switch_laws.proofs.ClosedLaws.{rows-ascend, rows-closed}
use Rattle.switch_model.specs.Rows.{rows}
use Rattle.switch_state.specs.Plain.{plain}
use Rattle.row_delta.proofs.ChangeLaws.{none_ascend, on_result}
use Rattle.row_delta.proofs.changes.rows_of.Goals as goal

pub returns-clause-added : goal.returns-clause-added
returns-clause-added c = on_result c.all_rows.result (λ changes between. one_changes changes (added_rows (rows (plain c.args.state.now))) no_rows (rows (plain c.args.state.now)) between (rows_added (rows (plain c.args.state.now)) (rows-ascend (plain c.args.state.now) c.shape.ensures.order))) c.all_rows.ensures

pub returns-clause-old : goal.returns-clause-old
returns-clause-old c = on_result c.all_rows.result (λ changes. rows_old changes no_rows (rows (plain c.args.state.now))) c.all_rows.ensures

pub returns-clause-new : goal.returns-clause-new
returns-clause-new c = on_result c.all_rows.result (λ changes. rows_make changes no_rows (rows (plain c.args.state.now)) none_ascend (rows-ascend (plain c.args.state.now) c.shape.ensures.order)) c.all_rows.ensures

pub returns-clause-closed : goal.returns-clause-closed
returns-clause-closed c = on_result c.all_rows.result (λ changes between. rows-closed (plain c.args.state.now) c.shape.ensures.order) c.all_rows.ensures

pub returns-clause-count : goal.returns-clause-count
returns-clause-count c = on_result c.all_rows.result (λ changes. rows_counted changes no_rows (rows (plain c.args.state.now))) c.all_rows.ensures
