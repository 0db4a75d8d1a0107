use Rattle.std.proofs.Common.{IfOk, List, subst}
use Rattle.net_types.specs.KeyOrder.{host_cmp}
use Rattle.row_change_laws.specs.Between.{AreChangesBetween}
use Rattle.switch_laws.proofs.ClosedLaws.{rows-ascend}
use Rattle.switch_model.specs.Rows.{rows}
use Rattle.switch_state.specs.Plain.{plain}
use Rattle.row_delta.proofs.TableLaws.{ascends_as}
use Rattle.row_delta.proofs.tables.host_between.Goals as goal

pub host_since-requires-clause-old : goal.host_since-requires-clause-old
host_since-requires-clause-old c = ascends_as host_cmp c.in_ok-rows.rows.items (rows (plain c.args.old.now)).host c.in_ok-rows.ensures (rows-ascend (plain c.args.old.now) c.shape.ensures.order).host

pub returns : goal.returns
returns c = subst (λ l. IfOk c.host_since.result (λ changes. AreChangesBetween host_cmp changes l (rows (plain c.args.new.now)).host)) c.in_ok-rows.ensures c.host_since.ensures
