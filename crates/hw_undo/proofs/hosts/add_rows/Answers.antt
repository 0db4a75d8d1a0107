use Rattle.std.proofs.Common.{refl}
use Rattle.net_types.specs.KeyOrder.{host_cmp, host_order}
use Rattle.net_types.specs.Rows.{Rows}
use Rattle.chip_core.specs.Chip.{view_of}
use Rattle.hw_undo.specs.Counts.{new_rows_in}
use Rattle.hw_undo.proofs.ChangeLaws.{dropped, add-full, add-turn, sum-opened}
use Rattle.chip_core.specs.ListLaws.{on_err}
use Rattle.hw_undo.proofs.RollBack.{but-stop, but-turn}
use Rattle.hw_undo.proofs.hosts.add_rows.Goals as goal

pub returns-in_err-add_row-clause-full : goal.returns-in_err-add_row-clause-full
returns-in_err-add_row-clause-full g c =
    let i = c.loop-change.invariant in
    let first = dropped c.args.changes.now c.loop-change.change-index c.change-item.result c.loop-change-test.true c.change-item.is in
    let before : Rows = view_of (g.C.HwSwitch.raw c.loop-change.chip) in
    on_err c.from_residual.result (add-full host_cmp host_order (λ rows. rows.host) (λ rows l. record rows { host = l }) (λ rows l. refl) (λ rows l m. refl) _ _ _ _ before _ first i.goal (rw i.noted.noted.caps at c.in_err-add_row.ensures.full))

pub returns-in_err-add_row-clause-some : goal.returns-in_err-add_row-clause-some
returns-in_err-add_row-clause-some g c = on_err c.from_residual.result (but-stop c.loop-change.invariant.noted c.in_err-add_row.ensures.none)

pub loop-change-preserved : goal.loop-change-preserved
loop-change-preserved g c =
    let i = c.loop-change.invariant in
    let first = dropped c.args.changes.now c.loop-change.change-index c.change-item.result c.loop-change-test.true c.change-item.is in
    let before : Rows = view_of (g.C.HwSwitch.raw c.loop-change.chip) in
    let next = add-turn host_cmp host_order (λ rows. rows.host) (λ rows l. record rows { host = l }) (λ rows l. refl) (λ rows l m. refl) _ _ _ before _ _ first c.in_ok-add_row.ensures.view i.goal i.ready i.ascending in
    record {
      goal = next.goal;
      ready = next.ready;
      ascending = next.ascending;
      noted = but-turn _ (sum-opened new_rows_in _ _ _ first) i.noted c.in_ok-add_row.ensures.noted;
    }
