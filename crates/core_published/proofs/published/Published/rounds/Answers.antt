use Rattle.std.proofs.Common.{ap, length, ◌∙◌}
use Rattle.core_laws.specs.Published.{PublishedView}
use Rattle.core_published.proofs.published.Published.rounds.Goals as goal

pub returns : goal.returns
returns c = record { rounds = c.rounds.ensures.rounds ∙ ap (λ (v : PublishedView). length v.rounds) c.self.view_is }
