use Rattle.hw_undo.proofs.RollBack.{noted-one}
use Rattle.hw_undo.proofs.Undoing.{undoes-set_l2}
use Rattle.hw_undo.proofs.l2.set_row.Goals as goal

pub returns-clause-noted : goal.returns-clause-noted
returns-clause-noted g c = noted-one _ _ _ (λ groups are. undoes-set_l2 groups _ _ _ _ _ _ c.set_l2-old.ensures.raw c.set_l2-old.ensures.old) c.note.ensures.items c.set_l2-old.ensures.caps c.set_l2-old.ensures.writes c.note.ensures.len c.note.ensures.room
