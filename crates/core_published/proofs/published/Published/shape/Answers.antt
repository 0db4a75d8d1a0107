use Rattle.std.proofs.Common.{ap, subst}
use Rattle.core_laws.specs.Published.{PublishedView}
use Rattle.switch_state.proofs.Following.{follows_self}
use Rattle.switch_state.specs.Follows.{Follows}
use Rattle.switch_state.specs.StateView.{StateView}
use Rattle.core_published.proofs.published.Published.shape.Goals as goal

pub returns-clause-published : goal.returns-clause-published
returns-clause-published c = rw (← c.self.view_is) c.self.invariant

pub returns-clause-follows : goal.returns-clause-follows
returns-clause-follows c = subst (λ (s : StateView). Follows s s) (ap (λ (v : PublishedView). v.state) c.self.view_is) (follows_self c.shape.ensures.state)
