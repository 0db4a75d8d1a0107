use Rattle.std.proofs.Common.{sym, subst}
use Rattle.net_types.specs.KeyOrder.{group_cmp}
use Rattle.row_change_laws.specs.Between.{AreChangesBetween}
use Rattle.row_change_laws.proofs.ClosedChanges.{table_groups}
use Rattle.switch_model.specs.Rows.{rows}
use Rattle.switch_state.specs.Plain.{plain}
use Rattle.row_delta.proofs.changes.all_between.Goals as goal

pub of-group-requires : goal.of-group-requires
of-group-requires c = table_groups c.in_ok-group_between.field-0 (plain c.args.old.now) (plain c.args.new.now) c.in_ok-group_between.ensures

pub returns : goal.returns
returns c = record {
  l2 = c.in_ok-l2.ensures;
  host = c.in_ok-host.ensures;
  group = subst (λ l. AreChangesBetween group_cmp l (rows (plain c.args.old.now)).group (rows (plain c.args.new.now)).group) (sym c.of-group.ensures) c.in_ok-group_between.ensures;
  route = c.in_ok-route.ensures;
}
