use Rattle.std.proofs.Common.{ap}
use Rattle.shared_laws.specs.Ground.{SideView}
use Rattle.agent_shared.proofs.side.Side.load.Goals as goal

pub returns-clause-same : goal.returns-clause-same
returns-clause-same g c = ap (λ (s : SideView). record s { run = c.load.new.run }) c.self.view_is

pub returns-clause-loaded : goal.returns-clause-loaded
returns-clause-loaded g c = c.load.ensures
