use Rattle.std.proofs.Common.{ap, length, ◌∙◌}
use Rattle.core_laws.specs.Published.{PublishedView}
use Rattle.switch_model.specs.Journal.{entries_of}
use Rattle.core_published.proofs.published.Published.front.Goals as goal

pub returns : goal.returns
returns c = record { entries = c.front.ensures.entries ∙ ap (λ (v : PublishedView). length (entries_of v.rounds)) c.self.view_is }
