use Rattle.std.proofs.Common.{IfOk, List, subst}
use Rattle.net_types.specs.KeyOrder.{group_cmp}
use Rattle.row_change_laws.specs.Between.{AreChangesBetween}
use Rattle.switch_laws.proofs.ClosedLaws.{rows-ascend}
use Rattle.switch_model.specs.Rows.{rows}
use Rattle.switch_state.specs.Plain.{plain}
use Rattle.row_delta.proofs.TableLaws.{ascends_as}
use Rattle.row_delta.proofs.tables.group_since.Goals as goal

pub group_changes-requires-clause-new : goal.group_changes-requires-clause-new
group_changes-requires-clause-new c = ascends_as group_cmp c.in_ok-new.new.items (rows (plain c.args.state.now)).group c.in_ok-new.ensures (rows-ascend (plain c.args.state.now) c.shape.ensures.order).group

pub returns : goal.returns
returns c = subst (λ l. IfOk c.group_changes.result (λ changes. AreChangesBetween group_cmp changes c.args.old.items l)) c.in_ok-new.ensures c.group_changes.ensures
