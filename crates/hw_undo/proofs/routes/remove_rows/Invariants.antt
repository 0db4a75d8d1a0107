use Rattle.std.proofs.Common.{◌≡◌, drop}
use Rattle.net_types.specs.KeyOrder.{route_cmp}
use Rattle.chip_core.specs.ChangeLists.{IsAscending}
use Rattle.chip_core.specs.Changes.{AreOld}
use Rattle.hw_undo.specs.Phases.{cuts}
use Rattle.chip_core.specs.Chip.{view_of}
use Rattle.hw_undo.specs.Counts.{old_rows_in, sum_over}
use Rattle.hw_undo.specs.Moments.{AreNotedBut, moment}
use Rattle.hw_undo.proofs.routes.remove_rows.Given as goal

abbrev pub invariant-loop-change : goal.invariant-loop-change
invariant-loop-change g l = record {
  goal : record (view_of (g.C.HwSwitch.raw l.chip)) { route = cuts route_cmp (drop l.change-index l.changes) (view_of (g.C.HwSwitch.raw l.chip)).route } ≡ record (view_of (g.C.HwSwitch.raw l.initial.chip)) { route = cuts route_cmp l.changes (view_of (g.C.HwSwitch.raw l.initial.chip)).route };
  old : AreOld route_cmp (drop l.change-index l.changes) (view_of (g.C.HwSwitch.raw l.chip)).route;
  ascending : IsAscending route_cmp (drop l.change-index l.changes);
  noted : AreNotedBut (sum_over old_rows_in (drop l.change-index l.changes)) (sum_over old_rows_in l.changes) (moment (g.C.HwSwitch.raw l.initial.chip) (g.C.HwSwitch.caps l.initial.chip) (g.C.HwSwitch.writes l.initial.chip) l.initial.log) (moment (g.C.HwSwitch.raw l.chip) (g.C.HwSwitch.caps l.chip) (g.C.HwSwitch.writes l.chip) l.log);
}
