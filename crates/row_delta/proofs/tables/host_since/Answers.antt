use Rattle.std.proofs.Common.{IfOk, List, subst}
use Rattle.net_types.specs.KeyOrder.{host_cmp}
use Rattle.row_change_laws.specs.Between.{AreChangesBetween}
use Rattle.switch_laws.proofs.ClosedLaws.{rows-ascend}
use Rattle.switch_model.specs.Rows.{rows}
use Rattle.switch_state.specs.Plain.{plain}
use Rattle.row_delta.proofs.TableLaws.{ascends_as}
use Rattle.row_delta.proofs.tables.host_since.Goals as goal

pub host_changes-requires-clause-new : goal.host_changes-requires-clause-new
host_changes-requires-clause-new c = ascends_as host_cmp c.in_ok-new.new.items (rows (plain c.args.state.now)).host c.in_ok-new.ensures (rows-ascend (plain c.args.state.now) c.shape.ensures.order).host

pub returns : goal.returns
returns c = subst (λ l. IfOk c.host_changes.result (λ changes. AreChangesBetween host_cmp changes c.args.old.items l)) c.in_ok-new.ensures c.host_changes.ensures
