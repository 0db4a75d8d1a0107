use Rattle.std.proofs.Common.{◌∙◌, List, ap, arith, length, subst, sym}
use Rattle.hw_undo.specs.Undo.{AreUndoable, rolled_back}
use Rattle.hw_undo.specs.declared.write.Write.{Write}
use Rattle.hw_undo.proofs.Whole.{few-writes}
use Rattle.hw_undo.proofs.transaction.commit.Goals as goal

pub delete_rows-requires-clause-room : goal.delete_rows-requires-clause-room
delete_rows-requires-clause-room g c =
    let few = few-writes c.args.changes in
    omega (arith, few.listed, c.requires.room, c.log.view_is, c.log.inside.writes.ok.0, ap (length {A = Write}) c.log.invariant)

pub write_rows-requires-clause-room : goal.write_rows-requires-clause-room
write_rows-requires-clause-room g c =
    let few = few-writes c.args.changes in
    omega (arith, few.listed, c.requires.room, c.log.view_is, c.log.inside.writes.ok.0, ap (length {A = Write}) c.log.invariant, c.delete_rows.ensures.noted.len, c.delete_rows.ensures.noted.room)

pub returns-in-Ok-clause-two_a_row : goal.returns-in-Ok-clause-two_a_row
returns-in-Ok-clause-two_a_row g c =
    let few = few-writes c.args.changes in
    omega (arith, few.rows, c.delete_rows.ensures.noted.writes, c.in-Ok.ensures.noted.writes)

pub returns-clause-four_a_row : goal.returns-clause-four_a_row
returns-clause-four_a_row g c =
    let few = few-writes c.args.changes in
    let some = c.in-Err.ensures.some in
    omega (arith, few.rows, c.delete_rows.ensures.noted.writes, c.delete_rows.ensures.noted.len, some.few, some.noted.writes, some.noted.len, c.undo_writes.ensures.writes, c.log.inside.writes.ok.0, ap (length {A = Write}) c.log.invariant)

pub undo_writes-requires : goal.undo_writes-requires
undo_writes-requires g c =
    let same = c.as_slice.ensures.value in
    c.in-Err.ensures.some.noted.undoable _ same (c.delete_rows.ensures.noted.undoable _ same (subst (λ (l : List Write). AreUndoable c.as_slice.result.now (g.C.HwSwitch.caps c.args.chip.now) l (g.C.HwSwitch.raw c.args.chip.now)) (sym c.log.invariant) tt))

pub returns-clause-err : goal.returns-clause-err
returns-clause-err g c =
    let same = c.as_slice.ensures.value in
    c.undo_writes.ensures.raw ∙ c.in-Err.ensures.some.noted.back _ same ∙ c.delete_rows.ensures.noted.back _ same
    ∙ ap (λ (l : List Write). rolled_back c.as_slice.result.now l (g.C.HwSwitch.raw c.args.chip.now)) c.log.invariant
