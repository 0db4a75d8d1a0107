use Rattle.hw_undo_check.proofs.runs.six_writes.Goals as goal

pub returns-in-Ok : goal.returns-in-Ok
returns-in-Ok c = rw c.in-Ok.ensures.case at c.written.ensures.made
