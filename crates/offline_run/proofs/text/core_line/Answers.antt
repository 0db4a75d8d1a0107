use Rattle.std.proofs.lemmas.Result.{IfOk-weaker}
use Rattle.offline_run.proofs.CheckLaws.{core_shown, core_told}
use Rattle.offline_run.proofs.text.core_line.Goals as goal

pub returns-clause-line : goal.returns-clause-line
returns-clause-line g c = IfOk-weaker c.state_line.result _ _ (λ line told. core_told line.items c.args.core.now.published c.published-published.result.now c.state.result.now c.published-published.ensures.published c.shape-2.ensures.published c.state.ensures.state told) c.state_line.ensures.line

pub returns-clause-shown : goal.returns-clause-shown
returns-clause-shown g c = core_shown c.args.core.now c.published-published.result.now c.shape.ensures.core c.published-published.ensures.published c.shape-2.ensures.published
