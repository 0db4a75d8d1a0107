use Rattle.agent_shared.proofs.Desks.{desk_reads}
use Rattle.agent_shared.proofs.desk.Desk.snapshot.Goals as goal

pub returns : goal.returns
returns c = desk_reads c.self.inside.published c.self.inside.pending c.self.inside.limit c.self.inside.sure c.args.self.now c.of.result c.self.view_is c.shape.ensures.published c.of.ensures.same
