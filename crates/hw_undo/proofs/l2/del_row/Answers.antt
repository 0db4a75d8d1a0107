use Rattle.hw_undo.proofs.RollBack.{noted-one}
use Rattle.hw_undo.proofs.Undoing.{undoes-removed_l2}
use Rattle.hw_undo.proofs.l2.del_row.Goals as goal

pub returns-clause-noted : goal.returns-clause-noted
returns-clause-noted g c =
    let sound = g.met.C.HwSwitch.sound c.args.chip.now in
    noted-one _ _ _ (λ groups are. undoes-removed_l2 groups _ _ _ _ _ sound c.del_l2-row.ensures.raw c.del_l2-row.ensures.old) c.note.ensures.items c.del_l2-row.ensures.caps c.del_l2-row.ensures.writes c.note.ensures.len c.note.ensures.room
