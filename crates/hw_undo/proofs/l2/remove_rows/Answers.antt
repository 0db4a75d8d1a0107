use Rattle.std.proofs.Common.{refl}
use Rattle.net_types.specs.KeyOrder.{l2_cmp, l2_order}
use Rattle.net_types.specs.Rows.{Rows}
use Rattle.chip_core.specs.Chip.{view_of}
use Rattle.hw_undo.specs.Counts.{removals_in}
use Rattle.hw_undo.proofs.ChangeLaws.{dropped, remove-turn, sum-opened}
use Rattle.hw_undo.proofs.RollBack.{but-turn}
use Rattle.hw_undo.proofs.l2.remove_rows.Goals as goal

pub loop-change-preserved : goal.loop-change-preserved
loop-change-preserved g c =
    let i = c.loop-change.invariant in
    let first = dropped c.args.changes.now c.loop-change.change-index c.change-item.result c.loop-change-test.true c.change-item.is in
    let before : Rows = view_of (g.C.HwSwitch.raw c.loop-change.chip) in
    let sound = g.met.C.HwSwitch.sound c.loop-change.chip in
    let next = remove-turn l2_cmp l2_order (λ rows. rows.l2) (λ rows l. record rows { l2 = l }) (λ rows l. refl) (λ rows l m. refl) _ _ _ before _ _ first c.remove_row.ensures.view i.goal i.old i.ascending sound.rows.keys.l2 in
    record {
      goal = next.goal;
      old = next.old;
      ascending = next.ascending;
      noted = but-turn _ (sum-opened removals_in _ _ _ first) i.noted c.remove_row.ensures.noted;
    }
