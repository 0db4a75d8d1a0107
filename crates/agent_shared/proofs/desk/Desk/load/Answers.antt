use Rattle.agent_shared.proofs.Desks.{desk_loaded}
use Rattle.agent_shared.proofs.desk.Desk.load.Goals as goal

pub returns : goal.returns
returns c = desk_loaded c.self.inside.published c.self.inside.pending c.load.new.self c.self.inside.limit c.self.inside.sure c.args.self.now c.load.result c.self.view_is c.load.ensures.run
