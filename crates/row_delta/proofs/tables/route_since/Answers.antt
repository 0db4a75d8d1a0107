use Rattle.std.proofs.Common.{IfOk, List, subst}
use Rattle.net_types.specs.KeyOrder.{route_cmp}
use Rattle.row_change_laws.specs.Between.{AreChangesBetween}
use Rattle.switch_laws.proofs.ClosedLaws.{rows-ascend}
use Rattle.switch_model.specs.Rows.{rows}
use Rattle.switch_state.specs.Plain.{plain}
use Rattle.row_delta.proofs.TableLaws.{ascends_as}
use Rattle.row_delta.proofs.tables.route_since.Goals as goal

pub route_changes-requires-clause-new : goal.route_changes-requires-clause-new
route_changes-requires-clause-new c = ascends_as route_cmp c.in_ok-new.new.items (rows (plain c.args.state.now)).route c.in_ok-new.ensures (rows-ascend (plain c.args.state.now) c.shape.ensures.order).route

pub returns : goal.returns
returns c = subst (λ l. IfOk c.route_changes.result (λ changes. AreChangesBetween route_cmp changes c.args.old.items l)) c.in_ok-new.ensures c.route_changes.ensures
