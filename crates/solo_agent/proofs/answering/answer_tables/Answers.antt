use Rattle.std.proofs.Common.{◌∙◌, ap, subst}
use Rattle.core_laws.specs.Published.{IsPublished, PublishedView, journal_of}
use Rattle.solo_agent.proofs.AnswerLaws.{tables_are}
use Rattle.switch_model.specs.Journal.{len}
use Rattle.switch_state.specs.StateView.{StateView}
use Rattle.solo_agent.proofs.answering.answer_tables.Goals as goal

pub returns : goal.returns
returns g c =
    let published = c.published-published.ensures.published in
    let version = c.version.ensures ∙ ap (λ (s : StateView). s.version) c.state.ensures.state ∙ ap (λ (p : PublishedView). p.state.version) published in
    let front = c.front.ensures.entries ∙ ap (λ (p : PublishedView). len (journal_of p)) published in
    tables_are c.args.core.now c.in_ok-tables.tables c.version.result c.front.result c.tables_text-text.result c.shape.ensures.core (subst IsPublished published c.shape-2.ensures.published) c.shape.ensures.chip c.in_ok-tables.ensures.tables version front c.tables_text-text.ensures
