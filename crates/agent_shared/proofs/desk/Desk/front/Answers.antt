use Rattle.std.proofs.Common.{ap, ◌∙◌}
use Rattle.shared_laws.specs.Ground.{DeskView, journal_at}
use Rattle.switch_model.specs.Journal.{len}
use Rattle.agent_shared.proofs.desk.Desk.front.Goals as goal

pub returns : goal.returns
returns c = c.front.ensures.entries ∙ ap (λ (d : DeskView). len (journal_at d.basis d.rounds)) c.self.view_is
