use Rattle.hw_undo.specs.Counts.{differing}
use Rattle.net_types.specs.Differ.{differ}
use Rattle.row_change_laws.proofs.BetweenLaws.{rows_counted, rows_make, rows_old}
use Rattle.switch_laws.proofs.ClosedLaws.{rows-ascend, rows-closed}
use Rattle.switch_model.specs.Rows.{rows}
use Rattle.switch_state.specs.Plain.{plain}
use Rattle.row_delta.proofs.ChangeLaws.{on_result}
use Rattle.row_delta.proofs.changes.changes_between.Goals as goal

pub returns-clause-old : goal.returns-clause-old
returns-clause-old c = on_result c.all_between.result (λ changes. rows_old changes (rows (plain c.args.old.now)) (rows (plain c.args.new.now))) c.all_between.ensures

pub returns-clause-new : goal.returns-clause-new
returns-clause-new c = on_result c.all_between.result (λ changes. rows_make changes (rows (plain c.args.old.now)) (rows (plain c.args.new.now)) (rows-ascend (plain c.args.old.now) c.shape.ensures.order) (rows-ascend (plain c.args.new.now) c.shape-2.ensures.order)) c.all_between.ensures

pub returns-clause-closed : goal.returns-clause-closed
returns-clause-closed c = on_result c.all_between.result (λ changes between. rows-closed (plain c.args.new.now) c.shape-2.ensures.order) c.all_between.ensures

pub returns-clause-count : goal.returns-clause-count
returns-clause-count c = on_result c.all_between.result (λ changes. rows_counted changes (rows (plain c.args.old.now)) (rows (plain c.args.new.now))) c.all_between.ensures
