use Rattle.std.proofs.Common.{refl}
use Rattle.net_types.specs.KeyOrder.{host_cmp, host_order}
use Rattle.net_types.specs.Rows.{Rows}
use Rattle.chip_core.specs.Chip.{view_of}
use Rattle.hw_undo.specs.Counts.{removals_in}
use Rattle.hw_undo.proofs.ChangeLaws.{dropped, remove-turn, sum-opened}
use Rattle.hw_undo.proofs.Leads.{closed-remove_host}
use Rattle.chip_core.specs.ViewLaws.{sorted-view}
use Rattle.hw_undo.proofs.RollBack.{but-turn}
use Rattle.hw_undo.proofs.hosts.remove_rows.Goals as goal

pub loop-change-preserved : goal.loop-change-preserved
loop-change-preserved g c =
    let i = c.loop-change.invariant in
    let first = dropped c.args.changes.now c.loop-change.change-index c.change-item.result c.loop-change-test.true c.change-item.is in
    let before : Rows = view_of (g.C.HwSwitch.raw c.loop-change.chip) in
    let sound = g.met.C.HwSwitch.sound c.loop-change.chip in
    let next = remove-turn host_cmp host_order (λ rows. rows.host) (λ rows l. record rows { host = l }) (λ rows l. refl) (λ rows l m. refl) _ _ _ before _ _ first c.remove_row.ensures.view i.goal i.old i.ascending (sorted-view _ sound.rows).host in
    record {
      goal = next.goal;
      old = next.old;
      ascending = next.ascending;
      noted = but-turn _ (sum-opened removals_in _ _ _ first) i.noted c.remove_row.ensures.noted;
    }

pub remove_row-requires-clause-closed : goal.remove_row-requires-clause-closed
remove_row-requires-clause-closed g c =
    let i = c.loop-change.invariant in
    let first = dropped c.args.changes.now c.loop-change.change-index c.change-item.result c.loop-change-test.true c.change-item.is in
    let before : Rows = view_of (g.C.HwSwitch.raw c.loop-change.chip) in
    let sound = g.met.C.HwSwitch.sound c.loop-change.chip in
    closed-remove_host before _ _ _ _ first i.goal c.requires.closed (sorted-view _ sound.rows).host
