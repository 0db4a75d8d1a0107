use Rattle.std.proofs.Common.{IfOk, List, subst}
use Rattle.net_types.specs.KeyOrder.{group_cmp}
use Rattle.row_change_laws.specs.Between.{AreChangesBetween}
use Rattle.switch_laws.proofs.ClosedLaws.{rows-ascend}
use Rattle.switch_model.specs.Rows.{rows}
use Rattle.switch_state.specs.Plain.{plain}
use Rattle.row_delta.proofs.TableLaws.{ascends_as}
use Rattle.row_delta.proofs.tables.group_between.Goals as goal

pub group_since-requires-clause-old : goal.group_since-requires-clause-old
group_since-requires-clause-old c = ascends_as group_cmp c.in_ok-rows.rows.items (rows (plain c.args.old.now)).group c.in_ok-rows.ensures (rows-ascend (plain c.args.old.now) c.shape.ensures.order).group

pub returns : goal.returns
returns c = subst (λ l. IfOk c.group_since.result (λ changes. AreChangesBetween group_cmp changes l (rows (plain c.args.new.now)).group)) c.in_ok-rows.ensures c.group_since.ensures
