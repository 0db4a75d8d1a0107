use Rattle.std.proofs.Common.{ap}
use Rattle.core_laws.specs.Published.{CoreView}
use Rattle.agent_core.proofs.switch_core.Core.published.Goals as goal

pub returns : goal.returns
returns g c = record { published = ap (λ (v : CoreView). v.published) c.self.view_is }
