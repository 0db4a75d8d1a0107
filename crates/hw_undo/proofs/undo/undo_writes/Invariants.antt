use Rattle.std.proofs.Common.{◌≡◌, ◌+◌, length}
use Rattle.hw_undo.specs.Undo.{rolled_back, AreUndoable}
use Rattle.hw_undo.proofs.undo.undo_writes.Given as goal

abbrev pub invariant-loop-write : goal.invariant-loop-write
invariant-loop-write g l = record {
  undoable : AreUndoable l.groups (g.C.HwSwitch.caps l.chip) l.write-iterator.iter.rest.now (g.C.HwSwitch.raw l.chip);
  back : rolled_back l.groups l.write-iterator.iter.rest.now (g.C.HwSwitch.raw l.chip) ≡ rolled_back l.groups l.fn.log.items (g.C.HwSwitch.raw l.initial.chip);
  caps : g.C.HwSwitch.caps l.chip ≡ g.C.HwSwitch.caps l.initial.chip;
  writes : g.C.HwSwitch.writes l.chip + length l.write-iterator.iter.rest.now ≡ g.C.HwSwitch.writes l.initial.chip + length l.fn.log.items;
}
