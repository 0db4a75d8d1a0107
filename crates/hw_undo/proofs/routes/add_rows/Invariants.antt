use Rattle.std.proofs.Common.{◌≡◌, drop}
use Rattle.net_types.specs.KeyOrder.{route_cmp}
use Rattle.chip_core.specs.ChangeLists.{IsAscending}
use Rattle.chip_core.specs.Changes.{adds}
use Rattle.chip_core.specs.Chip.{view_of}
use Rattle.hw_undo.specs.Counts.{new_rows_in, sum_over}
use Rattle.hw_undo.specs.Moments.{AreNotedBut, moment}
use Rattle.hw_undo.specs.Phases.{AreGone}
use Rattle.hw_undo.specs.Targets.{LeadsTo}
use Rattle.hw_undo.proofs.routes.add_rows.Given as goal

abbrev pub invariant-loop-change : goal.invariant-loop-change
invariant-loop-change g l = record {
  goal : record (view_of (g.C.HwSwitch.raw l.chip)) { route = adds route_cmp (drop l.change-index l.changes) (view_of (g.C.HwSwitch.raw l.chip)).route } ≡ record (view_of (g.C.HwSwitch.raw l.initial.chip)) { route = adds route_cmp l.changes (view_of (g.C.HwSwitch.raw l.initial.chip)).route };
  gone : AreGone route_cmp (drop l.change-index l.changes) (view_of (g.C.HwSwitch.raw l.chip)).route;
  ascending : IsAscending route_cmp (drop l.change-index l.changes);
  last : LeadsTo (g.C.HwSwitch.raw l.chip) l.last.row l.last.target.now;
  noted : AreNotedBut (sum_over new_rows_in (drop l.change-index l.changes)) (sum_over new_rows_in l.changes) (moment (g.C.HwSwitch.raw l.initial.chip) (g.C.HwSwitch.caps l.initial.chip) (g.C.HwSwitch.writes l.initial.chip) l.initial.log) (moment (g.C.HwSwitch.raw l.chip) (g.C.HwSwitch.caps l.chip) (g.C.HwSwitch.writes l.chip) l.log);
}
