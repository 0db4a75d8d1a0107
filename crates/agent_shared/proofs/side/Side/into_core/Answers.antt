use Rattle.std.proofs.Common.{ap, sym}
use Rattle.shared_laws.specs.Ground.{SideView}
use Rattle.agent_shared.proofs.side.Side.into_core.Goals as goal

pub returns : goal.returns
returns g c = record {
  core = c.shape.ensures.core;
  opening = ap (λ (s : SideView). s.basis.opening) (sym c.self.view_is);
  sure = ap (λ (s : SideView). s.basis.sure) (sym c.self.view_is);
  rounds = ap (λ (s : SideView). s.rounds) (sym c.self.view_is);
}
