use Rattle.std.proofs.Common.{subst}
use Rattle.core_laws.specs.Published.{IsPublished}
use Rattle.agent_shared.proofs.Sides.{side_copies}
use Rattle.agent_shared.proofs.side.Side.copy_tables.Goals as goal

pub returns : goal.returns
returns g c =
    side_copies c.self.inside.core c.self.inside.run c.self.inside.limit c.args.self.now c.copy_tables.result c.self.view_is c.shape.ensures.core (subst IsPublished c.published.ensures.published c.shape-2.ensures.published) c.shape.ensures.chip c.copy_tables.ensures.tables
