use Rattle.std.proofs.Common.{◌≡◌, ◌+◌, ◌∙◌, ap, arith, subst, sym}
use Rattle.hw_undo.specs.Counts.{deletions, old_rows_in, removals_in, sum_over}
use Rattle.hw_undo.proofs.RollBack.{noted-any, noted-as, noted-then, noted-where}
use Rattle.net_types.specs.Rows.{Rows}
use Rattle.chip_core.specs.Chip.{view_of}
use Rattle.hw_undo.specs.Phases.{AreAscending, AreReadyRows, with_new}
use Rattle.hw_undo.proofs.Leads.{closed-view}
use Rattle.hw_undo.proofs.Steps.{all-ascend, all-cut, group-phase, host-phase, hosts-ascend, routes-ascend}
use Rattle.chip_core.specs.ViewLaws.{sorted-view}
use Rattle.hw_undo.proofs.Whole.{ready-left, whole-left}
use Rattle.hw_undo.proofs.transaction.delete_rows.Goals as goal

pub remove_rows-requires-clause-ascending : goal.remove_rows-requires-clause-ascending
remove_rows-requires-clause-ascending g c = routes-ascend c.as_slice-route.result.now c.as_slice-route.ensures.ascending

pub remove_rows-requires-3-clause-ascending : goal.remove_rows-requires-3-clause-ascending
remove_rows-requires-3-clause-ascending g c = hosts-ascend c.as_slice-host.result.now c.as_slice-host.ensures.ascending

pub remove_rows-requires-2-clause-closed : goal.remove_rows-requires-2-clause-closed
remove_rows-requires-2-clause-closed g c =
    let changes = c.args.changes.now in
    let sound = g.met.C.HwSwitch.sound c.args.chip.now in
    let rows : Rows = view_of (g.C.HwSwitch.raw c.args.chip.now) in
    let ascending : AreAscending changes = all-ascend changes _ _ _ _ c.as_slice-l2.ensures.value c.as_slice-host.ensures.value c.as_slice-group.ensures.value c.as_slice-route.ensures.value c.as_slice-l2.ensures.ascending (hosts-ascend _ c.as_slice-host.ensures.ascending) c.as_slice-group.ensures.ascending (routes-ascend _ c.as_slice-route.ensures.ascending) in
    group-phase changes _ _ _ _ c.as_slice-l2.ensures.value c.as_slice-host.ensures.value c.as_slice-group.ensures.value c.as_slice-route.ensures.value rows _ rows rows rows c.remove_rows.ensures.view ascending (sorted-view _ sound.rows) (closed-view _ sound.rows) c.requires.closed

pub remove_rows-requires-3-clause-closed : goal.remove_rows-requires-3-clause-closed
remove_rows-requires-3-clause-closed g c =
    let changes = c.args.changes.now in
    let sound = g.met.C.HwSwitch.sound c.args.chip.now in
    let rows : Rows = view_of (g.C.HwSwitch.raw c.args.chip.now) in
    let ascending : AreAscending changes = all-ascend changes _ _ _ _ c.as_slice-l2.ensures.value c.as_slice-host.ensures.value c.as_slice-group.ensures.value c.as_slice-route.ensures.value c.as_slice-l2.ensures.ascending (hosts-ascend _ c.as_slice-host.ensures.ascending) c.as_slice-group.ensures.ascending (routes-ascend _ c.as_slice-route.ensures.ascending) in
    host-phase changes _ _ _ _ c.as_slice-l2.ensures.value c.as_slice-host.ensures.value c.as_slice-group.ensures.value c.as_slice-route.ensures.value rows _ _ rows rows c.remove_rows.ensures.view c.remove_rows-2.ensures.view ascending (sorted-view _ sound.rows) (closed-view _ sound.rows) c.requires.closed

pub returns-clause-ready : goal.returns-clause-ready
returns-clause-ready g c =
    let changes = c.args.changes.now in
    let sound = g.met.C.HwSwitch.sound c.args.chip.now in
    let rows : Rows = view_of (g.C.HwSwitch.raw c.args.chip.now) in
    let ascending : AreAscending changes = all-ascend changes _ _ _ _ c.as_slice-l2.ensures.value c.as_slice-host.ensures.value c.as_slice-group.ensures.value c.as_slice-route.ensures.value c.as_slice-l2.ensures.ascending (hosts-ascend _ c.as_slice-host.ensures.ascending) c.as_slice-group.ensures.ascending (routes-ascend _ c.as_slice-route.ensures.ascending) in
    let left = all-cut changes _ _ _ _ c.as_slice-l2.ensures.value c.as_slice-host.ensures.value c.as_slice-group.ensures.value c.as_slice-route.ensures.value rows _ _ _ _ c.remove_rows.ensures.view c.remove_rows-2.ensures.view c.remove_rows-3.ensures.view c.remove_rows-4.ensures.view in
    subst (AreReadyRows changes) (sym left) (ready-left changes rows ascending (sorted-view _ sound.rows) c.requires.old)

pub returns-clause-goal : goal.returns-clause-goal
returns-clause-goal g c =
    let changes = c.args.changes.now in
    let sound = g.met.C.HwSwitch.sound c.args.chip.now in
    let rows : Rows = view_of (g.C.HwSwitch.raw c.args.chip.now) in
    let ascending : AreAscending changes = all-ascend changes _ _ _ _ c.as_slice-l2.ensures.value c.as_slice-host.ensures.value c.as_slice-group.ensures.value c.as_slice-route.ensures.value c.as_slice-l2.ensures.ascending (hosts-ascend _ c.as_slice-host.ensures.ascending) c.as_slice-group.ensures.ascending (routes-ascend _ c.as_slice-route.ensures.ascending) in
    let left = all-cut changes _ _ _ _ c.as_slice-l2.ensures.value c.as_slice-host.ensures.value c.as_slice-group.ensures.value c.as_slice-route.ensures.value rows _ _ _ _ c.remove_rows.ensures.view c.remove_rows-2.ensures.view c.remove_rows-3.ensures.view c.remove_rows-4.ensures.view in
    ap (with_new changes) left ∙ whole-left changes rows ascending (sorted-view _ sound.rows)

pub returns-clause-noted : goal.returns-clause-noted
returns-clause-noted g c =
    let sum : deletions c.args.changes.now ≡ sum_over old_rows_in c.as_slice-route.result.now + sum_over removals_in c.as_slice-group.result.now + sum_over removals_in c.as_slice-host.result.now + sum_over removals_in c.as_slice-l2.result.now = omega (arith, ap (sum_over removals_in) c.as_slice-l2.ensures.value, ap (sum_over removals_in) c.as_slice-host.ensures.value, ap (sum_over removals_in) c.as_slice-group.ensures.value, ap (sum_over old_rows_in) c.as_slice-route.ensures.value) in
    noted-as (deletions c.args.changes.now) sum (noted-then (noted-then (noted-then (noted-any c.remove_rows.ensures.noted) (noted-where (λ groups is. is ∙ sym c.as_slice-group.ensures.value) c.remove_rows-2.ensures.noted)) (noted-any c.remove_rows-3.ensures.noted)) (noted-any c.remove_rows-4.ensures.noted))
