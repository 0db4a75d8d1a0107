use Rattle.agent_shared.proofs.Desks.{desk_counts}
use Rattle.agent_shared.proofs.desk.Desk.waits.Goals as goal

pub returns : goal.returns
returns c = desk_counts c.self.inside.published c.self.inside.pending c.args.self.now c.self.inside.limit c.self.inside.sure c.len.result c.self.view_is c.len.ensures.length
