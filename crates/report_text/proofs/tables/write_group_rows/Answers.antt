use Rattle.report_text.proofs.RowLaws.{groups_text-step}
use Rattle.report_text.proofs.tables.write_group_rows.Goals as goal

pub loop-entry-preserved : goal.loop-entry-preserved
loop-entry-preserved c = groups_text-step _ _ _ c.args.rows.now c.loop-entry.entry-index c.entry-item.result c.loop-entry-test.true c.entry-item.is c.loop-entry.invariant c.in_ok-write_group_row.ensures
