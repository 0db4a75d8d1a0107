use Rattle.std.proofs.Common.{IfOk, List, subst}
use Rattle.net_types.specs.KeyOrder.{l2_cmp}
use Rattle.row_change_laws.specs.Between.{AreChangesBetween}
use Rattle.switch_laws.proofs.ClosedLaws.{rows-ascend}
use Rattle.switch_model.specs.Rows.{rows}
use Rattle.switch_state.specs.Plain.{plain}
use Rattle.row_delta.proofs.TableLaws.{ascends_as}
use Rattle.row_delta.proofs.tables.l2_between.Goals as goal

pub l2_since-requires : goal.l2_since-requires
l2_since-requires c = ascends_as l2_cmp c.in_ok-rows.rows.items (rows (plain c.args.old.now)).l2 c.in_ok-rows.ensures (rows-ascend (plain c.args.old.now) c.shape.ensures.order).l2

pub returns : goal.returns
returns c = subst (λ l. IfOk c.l2_since.result (λ changes. AreChangesBetween l2_cmp changes l (rows (plain c.args.new.now)).l2)) c.in_ok-rows.ensures c.l2_since.ensures
