use Rattle.std.proofs.Common.{ap}
use Rattle.core_laws.specs.Published.{PublishedView}
use Rattle.core_published.proofs.published.Published.base.Goals as goal

pub returns : goal.returns
returns c = record { base = ap (λ (v : PublishedView). v.base) c.self.view_is }
