use Rattle.solo_agent.proofs.desk.Desk.shape.Goals as goal

pub returns : goal.returns
returns g c = record { waiting = rw (← c.self.view_is) c.self.invariant }
