use Rattle.std.proofs.Common.{◌≡◌, ◌<◌, ap, ◌∙◌, subst, arith}
use Rattle.switch_state.specs.Follows.{Follows}
use Rattle.switch_state.specs.StateView.{StateView}
use Rattle.state_check.proofs.parts.edited.Goals as goal

pub returns-clause-version : goal.returns-clause-version
returns-clause-version c = ap (λ (s : StateView). s.version) c.finish.ensures.state ∙ c.act_on.ensures.version ∙ ap (λ (s : StateView). s.version) c.in_ok-edit.ensures.state

pub returns-clause-follows : goal.returns-clause-follows
returns-clause-follows c =
    let edit = c.act_on.new.edit in
    let base : edit.base ≡ c.args.base.now = c.act_on.ensures.base ∙ c.in_ok-edit.ensures.base in
    let at : edit.state.version ≡ c.args.version = c.act_on.ensures.version ∙ ap (λ (s : StateView). s.version) c.in_ok-edit.ensures.state in
    let from : edit.base.version ≡ c.args.base.now.version = ap (λ (s : StateView). s.version) base in
    let before : c.args.base.now.version < c.args.version = c.requires in
    subst (λ (s : StateView). Follows s c.finish.result) base (c.finish.ensures.follows (omega arith))
