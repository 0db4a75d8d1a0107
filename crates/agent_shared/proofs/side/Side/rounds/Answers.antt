use Rattle.std.proofs.Common.{ap, length, ◌∙◌}
use Rattle.core_laws.specs.Published.{PublishedView}
use Rattle.shared_laws.specs.Ground.{SideView}
use Rattle.agent_shared.proofs.side.Side.rounds.Goals as goal

pub returns : goal.returns
returns g c = c.rounds.ensures.rounds ∙ (ap (λ (p : PublishedView). length p.rounds) c.published.ensures.published ∙ ap (λ (s : SideView). length s.rounds) c.self.view_is)
