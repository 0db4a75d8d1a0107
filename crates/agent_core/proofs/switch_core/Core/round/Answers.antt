use Rattle.std.proofs.Common.{ap, subst, sym, ◌∙◌}
use Rattle.core_laws.specs.Published.{PublishedView, journal_of}
use Rattle.switch_model.specs.Journal.{len}
use Rattle.switch_model.specs.Legal.{IsRun}
use Rattle.agent_core.proofs.TurnLaws.{settled_few, settled_past}
use Rattle.agent_core.proofs.switch_core.Core.round.Goals as goal

pub entries_since-settled-requires-clause-past : goal.entries_since-settled-requires-clause-past
entries_since-settled-requires-clause-past g c = settled_past c.as_slice.result.now c.args.self.now c.settle.new.self c.in_ok-published.published c.front-before.result c.in_ok-published.ensures.published
    (c.front-before.ensures.entries ∙ ap (λ (p : PublishedView). len (journal_of p)) c.published.ensures.published) c.in_ok-published.ensures.settled

pub entries_since-settled-requires-clause-few : goal.entries_since-settled-requires-clause-few
entries_since-settled-requires-clause-few g c = settled_few c.as_slice.result.now c.args.self.now c.settle.new.self c.in_ok-published.published c.front-before.result c.in_ok-published.ensures.published
    (c.front-before.ensures.entries ∙ ap (λ (p : PublishedView). len (journal_of p)) c.published.ensures.published) c.shape.ensures.core (subst IsRun (sym c.as_slice.ensures.list) c.requires.run) c.in_ok-published.ensures.settled
