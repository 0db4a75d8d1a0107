use Rattle.std.proofs.Common.{refl}
use Rattle.net_types.specs.KeyOrder.{group_cmp, group_order}
use Rattle.net_types.specs.Rows.{Rows}
use Rattle.chip_core.specs.Chip.{view_of}
use Rattle.hw_undo.specs.Counts.{new_rows_in}
use Rattle.hw_undo.proofs.ChangeLaws.{dropped, listed-at, add-full, add-turn, groups-turn, sum-opened}
use Rattle.hw_undo.proofs.Leads.{known-new_group}
use Rattle.chip_core.specs.ListLaws.{on_err}
use Rattle.hw_undo.proofs.RollBack.{but-stop, but-turn, noted-where}
use Rattle.hw_undo.proofs.groups.add_rows.Goals as goal

pub returns-in_err-add_row-clause-full : goal.returns-in_err-add_row-clause-full
returns-in_err-add_row-clause-full g c =
    let i = c.loop-place.invariant in
    let first = dropped c.args.changes.now c.loop-place.place c.index-changes-place.result c.loop-place-test.true c.index-changes-place.is in
    let before : Rows = view_of (g.C.HwSwitch.raw c.loop-place.chip) in
    on_err c.from_residual.result (add-full group_cmp group_order (λ rows. rows.group) (λ rows l. record rows { group = l }) (λ rows l. refl) (λ rows l m. refl) _ _ _ _ before _ first i.goal (rw i.noted.noted.caps at c.in_err-add_row.ensures.full))

pub returns-in_err-add_row-clause-some : goal.returns-in_err-add_row-clause-some
returns-in_err-add_row-clause-some g c = on_err c.from_residual.result (but-stop c.loop-place.invariant.noted (noted-where (listed-at c.args.changes.now _ c.index-changes-place.result c.loop-place-test.true c.index-changes-place.is) c.in_err-add_row.ensures.none))

pub loop-place-preserved : goal.loop-place-preserved
loop-place-preserved g c =
    let i = c.loop-place.invariant in
    let first = dropped c.args.changes.now c.loop-place.place c.index-changes-place.result c.loop-place-test.true c.index-changes-place.is in
    let before : Rows = view_of (g.C.HwSwitch.raw c.loop-place.chip) in
    let next = add-turn group_cmp group_order (λ rows. rows.group) (λ rows l. record rows { group = l }) (λ rows l. refl) (λ rows l m. refl) _ _ _ before _ _ first c.in_ok-add_row.ensures.view i.goal i.ready i.ascending in
    record {
      goal = next.goal;
      ready = next.ready;
      ascending = next.ascending;
      groups = (groups-turn _ _ _ first i.groups).1;
      noted = but-turn _ (sum-opened new_rows_in _ _ _ first) i.noted (noted-where (listed-at c.args.changes.now _ c.index-changes-place.result c.loop-place-test.true c.index-changes-place.is) c.in_ok-add_row.ensures.noted);
    }

pub add_row-requires-clause-group : goal.add_row-requires-clause-group
add_row-requires-clause-group g c =
    let first = dropped c.args.changes.now c.loop-place.place c.index-changes-place.result c.loop-place-test.true c.index-changes-place.is in
    (groups-turn _ _ _ first c.loop-place.invariant.groups).0

pub add_row-requires-clause-known : goal.add_row-requires-clause-known
add_row-requires-clause-known g c =
    let i = c.loop-place.invariant in
    let first = dropped c.args.changes.now c.loop-place.place c.index-changes-place.result c.loop-place-test.true c.index-changes-place.is in
    let before : Rows = view_of (g.C.HwSwitch.raw c.loop-place.chip) in
    known-new_group before _ _ _ _ first i.goal c.requires.closed i.ascending
