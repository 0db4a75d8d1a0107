use Rattle.std.proofs.Common.{IfOk, List, subst}
use Rattle.net_types.specs.KeyOrder.{l2_cmp}
use Rattle.row_change_laws.specs.Between.{AreChangesBetween}
use Rattle.switch_laws.proofs.ClosedLaws.{rows-ascend}
use Rattle.switch_model.specs.Rows.{rows}
use Rattle.switch_state.specs.Plain.{plain}
use Rattle.row_delta.proofs.TableLaws.{ascends_as}
use Rattle.row_delta.proofs.tables.l2_since.Goals as goal

pub l2_changes-requires-clause-new : goal.l2_changes-requires-clause-new
l2_changes-requires-clause-new c = ascends_as l2_cmp c.in_ok-new.new.items (rows (plain c.args.state.now)).l2 c.in_ok-new.ensures (rows-ascend (plain c.args.state.now) c.shape.ensures.order).l2

pub returns : goal.returns
returns c = subst (λ l. IfOk c.l2_changes.result (λ changes. AreChangesBetween l2_cmp changes c.args.old.items l)) c.in_ok-new.ensures c.l2_changes.ensures
