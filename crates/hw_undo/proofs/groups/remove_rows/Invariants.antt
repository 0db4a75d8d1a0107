use Rattle.std.proofs.Common.{◌≡◌, drop}
use Rattle.net_types.specs.KeyOrder.{group_cmp}
use Rattle.chip_core.specs.ChangeLists.{AreGroupChanges, IsAscending}
use Rattle.chip_core.specs.Changes.{AreOld, removes}
use Rattle.chip_core.specs.Chip.{view_of}
use Rattle.hw_undo.specs.Counts.{removals_in, sum_over}
use Rattle.hw_undo.specs.Moments.{AreNotedButWhere, moment}
use Rattle.hw_undo.proofs.groups.remove_rows.Given as goal

abbrev pub invariant-loop-place : goal.invariant-loop-place
invariant-loop-place g l = record {
  goal : record (view_of (g.C.HwSwitch.raw l.chip)) { group = removes group_cmp (drop l.place l.changes) (view_of (g.C.HwSwitch.raw l.chip)).group } ≡ record (view_of (g.C.HwSwitch.raw l.initial.chip)) { group = removes group_cmp l.changes (view_of (g.C.HwSwitch.raw l.initial.chip)).group };
  old : AreOld group_cmp (drop l.place l.changes) (view_of (g.C.HwSwitch.raw l.chip)).group;
  ascending : IsAscending group_cmp (drop l.place l.changes);
  groups : AreGroupChanges (drop l.place l.changes);
  noted : AreNotedButWhere (λ groups. groups ≡ l.changes) (sum_over removals_in (drop l.place l.changes)) (sum_over removals_in l.changes) (moment (g.C.HwSwitch.raw l.initial.chip) (g.C.HwSwitch.caps l.initial.chip) (g.C.HwSwitch.writes l.initial.chip) l.initial.log) (moment (g.C.HwSwitch.raw l.chip) (g.C.HwSwitch.caps l.chip) (g.C.HwSwitch.writes l.chip) l.log);
}
