use Rattle.std.proofs.Common.{◌∙◌, ap}
use Rattle.report_text.specs.AnswerFound.{found_in}
use Rattle.solo_agent.proofs.AnswerLaws.{answer_is}
use Rattle.switch_state.specs.Plain.{plain}
use Rattle.switch_state.specs.StateView.{StateView}
use Rattle.solo_agent.proofs.answering.answer.Goals as goal

pub returns : goal.returns
returns c =
    let state = c.state-state.ensures.state in
    answer_is c.args.published.now c.args.query.now c.in_ok-found.found c.version.result c.front.result c.answer_text-text.result c.shape.ensures.published c.answers_say_what_is_found.ensures
    (c.in_ok-found.ensures.found ∙ ap (λ (s : StateView). found_in (plain s) c.args.query.now) state) (c.version.ensures ∙ ap (λ (s : StateView). s.version) state) c.front.ensures.entries c.answer_text-text.ensures
