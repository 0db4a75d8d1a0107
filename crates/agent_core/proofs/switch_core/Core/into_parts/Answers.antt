use Rattle.std.proofs.Common.{ap, ◌∙◌}
use Rattle.core_laws.specs.Published.{CoreView}
use Rattle.agent_core.proofs.switch_core.Core.into_parts.Goals as goal

pub returns : goal.returns
returns g c = record {
  raw = ap (λ (v : CoreView). v.raw) c.self.view_is;
  caps = ap (λ (v : CoreView). v.caps) c.self.view_is;
  writes = ap (λ (v : CoreView). v.writes) c.self.view_is;
  published = ap (λ (v : CoreView). v.published) c.self.view_is;
  watches = c.into_observers.ensures.watches ∙ ap (λ (v : CoreView). v.audience.watches) c.self.view_is;
}
