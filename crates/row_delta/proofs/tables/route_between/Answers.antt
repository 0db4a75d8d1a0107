use Rattle.std.proofs.Common.{IfOk, List, subst}
use Rattle.net_types.specs.KeyOrder.{route_cmp}
use Rattle.row_change_laws.specs.Between.{AreChangesBetween}
use Rattle.switch_laws.proofs.ClosedLaws.{rows-ascend}
use Rattle.switch_model.specs.Rows.{rows}
use Rattle.switch_state.specs.Plain.{plain}
use Rattle.row_delta.proofs.TableLaws.{ascends_as}
use Rattle.row_delta.proofs.tables.route_between.Goals as goal

pub route_since-requires-clause-old : goal.route_since-requires-clause-old
route_since-requires-clause-old c = ascends_as route_cmp c.in_ok-rows.rows.items (rows (plain c.args.old.now)).route c.in_ok-rows.ensures (rows-ascend (plain c.args.old.now) c.shape.ensures.order).route

pub returns : goal.returns
returns c = subst (λ l. IfOk c.route_since.result (λ changes. AreChangesBetween route_cmp changes l (rows (plain c.args.new.now)).route)) c.in_ok-rows.ensures c.route_since.ensures
