use Rattle.agent_run.proofs.RowLaws.{groups_ascend}
use Rattle.agent_run.proofs.run.rows_of_core.Goals as goal

pub returns-clause-groups : goal.returns-clause-groups
returns-clause-groups g c = groups_ascend c.args.core.now.caps c.args.core.now.raw c.in_ok-tables.tables c.rows_of-rows.result c.shape.ensures.chip c.in_ok-tables.ensures.tables c.rows_of-rows.ensures.rows
