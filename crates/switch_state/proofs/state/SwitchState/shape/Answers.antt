use Rattle.std.proofs.Common.{subst}
use Rattle.switch_model.specs.PlainState.{ArePartsInOrder}
use Rattle.switch_state.specs.Plain.{plain}
use Rattle.switch_state.specs.StateView.{StateView}
use Rattle.switch_state.proofs.Ordered.{parts_in_order}
use Rattle.switch_state.proofs.state.SwitchState.shape.Goals as goal

pub returns-clause-order : goal.returns-clause-order
returns-clause-order c = subst (λ (s : StateView). ArePartsInOrder (plain s)) c.self.view_is (parts_in_order _ c.self.invariant.parts)
