use Rattle.std.proofs.Common.{sym, subst}
use Rattle.net_types.specs.KeyOrder.{l2_cmp, host_cmp, group_cmp, route_cmp}
use Rattle.row_change_laws.specs.Between.{AreChangesBetween, no_rows}
use Rattle.switch_model.specs.Rows.{rows}
use Rattle.switch_state.specs.Plain.{plain}
use Rattle.row_delta.proofs.TableLaws.{added_groups}
use Rattle.row_delta.proofs.changes.all_rows.Goals as goal

pub of-group-requires : goal.of-group-requires
of-group-requires c = added_groups c.in_ok-group_since.field-0 c.new-3.result.items (plain c.args.state.now) c.new-3.ensures.items c.in_ok-group_since.ensures

pub returns : goal.returns
returns c = record {
  l2 = subst (λ l. AreChangesBetween l2_cmp c.in_ok-l2.l2 l (rows (plain c.args.state.now)).l2) c.new.ensures.items c.in_ok-l2.ensures;
  host = subst (λ l. AreChangesBetween host_cmp c.in_ok-host.host l (rows (plain c.args.state.now)).host) c.new-2.ensures.items c.in_ok-host.ensures;
  group = subst (λ l. AreChangesBetween group_cmp l no_rows.group (rows (plain c.args.state.now)).group) (sym c.of-group.ensures)
      (subst (λ l. AreChangesBetween group_cmp c.in_ok-group_since.field-0 l (rows (plain c.args.state.now)).group) c.new-3.ensures.items c.in_ok-group_since.ensures);
  route = subst (λ l. AreChangesBetween route_cmp c.in_ok-route.route l (rows (plain c.args.state.now)).route) c.new-4.ensures.items c.in_ok-route.ensures;
}
