use Rattle.std.proofs.Common.{refl}
use Rattle.net_types.specs.KeyOrder.{route_cmp, route_order}
use Rattle.net_types.specs.Rows.{Rows}
use Rattle.chip_core.specs.Chip.{view_of}
use Rattle.hw_undo.specs.Counts.{new_rows_in}
use Rattle.hw_undo.proofs.ChangeLaws.{dropped, add-full, add_gone-turn, sum-opened}
use Rattle.hw_undo.proofs.Leads.{known-new_route}
use Rattle.chip_core.specs.ListLaws.{on_err}
use Rattle.hw_undo.proofs.RollBack.{but-stop, but-turn}
use Rattle.hw_undo.proofs.routes.add_rows.Goals as goal

pub returns-in_err-last-clause-full : goal.returns-in_err-last-clause-full
returns-in_err-last-clause-full g c =
    let i = c.loop-change.invariant in
    let first = dropped c.args.changes.now c.loop-change.change-index c.change-item.result c.loop-change-test.true c.change-item.is in
    let before : Rows = view_of (g.C.HwSwitch.raw c.loop-change.chip) in
    on_err c.from_residual.result (add-full route_cmp route_order (λ rows. rows.route) (λ rows l. record rows { route = l }) (λ rows l. refl) (λ rows l m. refl) _ _ _ _ before _ first i.goal (rw i.noted.noted.caps at c.in_err-last.ensures.full))

pub returns-in_err-last-clause-some : goal.returns-in_err-last-clause-some
returns-in_err-last-clause-some g c = on_err c.from_residual.result (but-stop c.loop-change.invariant.noted c.in_err-last.ensures.none)

pub loop-change-preserved : goal.loop-change-preserved
loop-change-preserved g c =
    let i = c.loop-change.invariant in
    let first = dropped c.args.changes.now c.loop-change.change-index c.change-item.result c.loop-change-test.true c.change-item.is in
    let before : Rows = view_of (g.C.HwSwitch.raw c.loop-change.chip) in
    let next = add_gone-turn route_cmp route_order (λ rows. rows.route) (λ rows l. record rows { route = l }) (λ rows l. refl) (λ rows l m. refl) _ _ _ before _ _ first c.in_ok-last.ensures.view i.goal i.gone i.ascending in
    record {
      goal = next.goal;
      gone = next.gone;
      ascending = next.ascending;
      last = c.in_ok-last.ensures.last;
      noted = but-turn _ (sum-opened new_rows_in _ _ _ first) i.noted c.in_ok-last.ensures.noted;
    }

pub add_row-requires-clause-known : goal.add_row-requires-clause-known
add_row-requires-clause-known g c =
    let i = c.loop-change.invariant in
    let first = dropped c.args.changes.now c.loop-change.change-index c.change-item.result c.loop-change-test.true c.change-item.is in
    let before : Rows = view_of (g.C.HwSwitch.raw c.loop-change.chip) in
    known-new_route before _ _ _ _ first i.goal c.requires.closed i.ascending

pub add_row-requires-clause-last : goal.add_row-requires-clause-last
add_row-requires-clause-last g c = c.loop-change.invariant.last
