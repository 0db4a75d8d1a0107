use Rattle.agent_shared.proofs.desk.Desk.shape.Goals as goal

pub returns : goal.returns
returns c = rw (← c.self.view_is) c.self.invariant
