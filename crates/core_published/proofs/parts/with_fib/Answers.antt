use Rattle.std.proofs.Common.{ap, subst, sym, ◌∙◌}
use Rattle.switch_state.specs.Edit.{EditView}
use Rattle.switch_state.specs.Plain.{plain}
use Rattle.switch_state.specs.StateView.{StateView}
use Rattle.state_laws.specs.Fib.{HasFib}
use Rattle.core_published.proofs.parts.with_fib.Goals as goal

pub returns-clause-plain : goal.returns-clause-plain
returns-clause-plain c = ap (λ (s : StateView). plain s) c.finish.ensures.state ∙ ap (λ (e : EditView). plain e.state) c.make_fib.ensures.others ∙ ap (λ (s : StateView). plain s) c.in_ok-edit.ensures.state

pub returns-clause-version : goal.returns-clause-version
returns-clause-version c = ap (λ (s : StateView). s.version) c.finish.ensures.state ∙ ap (λ (e : EditView). e.state.version) c.make_fib.ensures.others ∙ ap (λ (s : StateView). s.version) c.in_ok-edit.ensures.state ∙ c.version.ensures

pub returns-clause-fib : goal.returns-clause-fib
returns-clause-fib c = subst HasFib (sym c.finish.ensures.state) c.in_ok-make_fib.ensures.fib
