use Rattle.report_text.proofs.RowLaws.{routes_text-step}
use Rattle.report_text.proofs.tables.write_route_rows.Goals as goal

pub loop-entry-preserved : goal.loop-entry-preserved
loop-entry-preserved c = routes_text-step c.args.groups.now _ _ _ c.args.rows.now c.loop-entry.entry-index c.entry-item.result c.loop-entry-test.true c.entry-item.is c.loop-entry.invariant c.in_ok-write_route_row.ensures
