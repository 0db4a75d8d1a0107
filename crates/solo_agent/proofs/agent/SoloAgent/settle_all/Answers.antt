use Rattle.std.proofs.Common.{◌∙◌, ap}
use Rattle.solo_agent.specs.Views.{SoloView, journal}
use Rattle.solo_laws.proofs.CourseLaws.{all_settled}
use Rattle.solo_agent.proofs.agent.SoloAgent.settle_all.Goals as goal

pub returns-clause-ok : goal.returns-clause-ok
returns-clause-ok g c =
    let d = c.self.inside.desk in
    all_settled (journal d) d.waiting c.self.inside.tickets.items c.clear.new.self.items c.self.inside.replies c.args.self.now.course (ap (λ (a : SoloView). a.course) c.self.view_is ∙ c.in_ok-settle_each.ensures.ok) c.clear.ensures.items
