use Rattle.std.proofs.Common.{◌≡◌, ◌++◌, ◌∷◌, [], List, length, length-append, ap, ◌∙◌, subst, arith}
use Rattle.hw_undo.specs.Undo.{AreUndoable}
use Rattle.hw_undo.specs.declared.write.Write.{Write}
use Rattle.hw_undo.proofs.RollBack.{turn, undoable-last}
use Rattle.hw_undo.proofs.undo.undo_writes.Goals as goal

pub undo_write-requires : goal.undo_write-requires
undo_write-requires g c = undoable-last c.args.groups.now _ c.next.new.self.iter.rest.now _ _ (subst (λ (l : List Write). AreUndoable c.args.groups.now (g.C.HwSwitch.caps c.loop-write.chip) l (g.C.HwSwitch.raw c.loop-write.chip)) c.in-Some.ensures.steps c.loop-write.invariant.undoable)

pub loop-write-preserved : goal.loop-write-preserved
loop-write-preserved g c =
    let i = c.loop-write.invariant in
    let left = c.next.new.self.iter.rest.now in
    let is : c.loop-write.write-iterator.iter.rest.now ≡ left ++ c.in-Some.write.now ∷ [] = c.in-Some.ensures.steps in
    let next = turn c.args.groups.now _ _ c.loop-write.write-iterator.iter.rest.now left c.in-Some.write.now _ _ is c.undo_write.ensures.raw c.undo_write.ensures.caps i.undoable in
    record {
      undoable = next.undoable;
      back = next.back ∙ i.back;
      caps = c.undo_write.ensures.caps ∙ i.caps;
      writes = omega (arith, c.undo_write.ensures.writes, i.writes, ap length is, length-append left (c.in-Some.write.now ∷ []));
    }
