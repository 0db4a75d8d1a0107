use Rattle.std.proofs.Common.{sym}
use Rattle.agent_shared.proofs.Desks.{desk_entry}
use Rattle.agent_shared.proofs.desk.Desk.settled_at.Goals as goal

pub returns : goal.returns
returns c =
    desk_entry c.self.inside.published c.self.inside.pending c.self.inside.limit c.self.inside.sure c.args.self.now c.args.position c.in_ok-entry.entry.now c.self.view_is (sym c.in_ok-entry.ensures.entry)
