use Rattle.std.proofs.Common.{refl}
use Rattle.net_types.specs.KeyOrder.{group_cmp, group_order}
use Rattle.net_types.specs.Rows.{Rows}
use Rattle.chip_core.specs.Chip.{view_of}
use Rattle.hw_undo.specs.Counts.{removals_in}
use Rattle.hw_undo.proofs.ChangeLaws.{dropped, listed-at, remove-turn, groups-turn, sum-opened}
use Rattle.hw_undo.proofs.Leads.{closed-remove_group, closed-view}
use Rattle.chip_core.specs.ViewLaws.{sorted-view}
use Rattle.hw_undo.proofs.RollBack.{but-turn, noted-where}
use Rattle.hw_undo.proofs.groups.remove_rows.Goals as goal

pub loop-place-preserved : goal.loop-place-preserved
loop-place-preserved g c =
    let i = c.loop-place.invariant in
    let first = dropped c.args.changes.now c.loop-place.place c.index-changes-place.result c.loop-place-test.true c.index-changes-place.is in
    let before : Rows = view_of (g.C.HwSwitch.raw c.loop-place.chip) in
    let sound = g.met.C.HwSwitch.sound c.loop-place.chip in
    let next = remove-turn group_cmp group_order (λ rows. rows.group) (λ rows l. record rows { group = l }) (λ rows l. refl) (λ rows l m. refl) _ _ _ before _ _ first c.remove_row.ensures.view i.goal i.old i.ascending (sorted-view _ sound.rows).group in
    record {
      goal = next.goal;
      old = next.old;
      ascending = next.ascending;
      groups = (groups-turn _ _ _ first i.groups).1;
      noted = but-turn _ (sum-opened removals_in _ _ _ first) i.noted (noted-where (listed-at c.args.changes.now _ c.index-changes-place.result c.loop-place-test.true c.index-changes-place.is) c.remove_row.ensures.noted);
    }

pub remove_row-requires-clause-group : goal.remove_row-requires-clause-group
remove_row-requires-clause-group g c =
    let first = dropped c.args.changes.now c.loop-place.place c.index-changes-place.result c.loop-place-test.true c.index-changes-place.is in
    (groups-turn _ _ _ first c.loop-place.invariant.groups).0

pub remove_row-requires-clause-closed : goal.remove_row-requires-clause-closed
remove_row-requires-clause-closed g c =
    let i = c.loop-place.invariant in
    let first = dropped c.args.changes.now c.loop-place.place c.index-changes-place.result c.loop-place-test.true c.index-changes-place.is in
    let before : Rows = view_of (g.C.HwSwitch.raw c.loop-place.chip) in
    let sound = g.met.C.HwSwitch.sound c.loop-place.chip in
    closed-remove_group before _ _ _ _ first i.goal c.requires.closed (closed-view _ sound.rows) (sorted-view _ sound.rows).group
