use Rattle.std.proofs.Common.{◌≡◌, ◌∙◌, ap, subst}
use Rattle.core_laws.specs.Published.{CoreView, journal_of}
use Rattle.solo_agent.specs.Views.{SoloView, journal}
use Rattle.solo_laws.proofs.CourseLaws.{ticket_next}
use Rattle.solo_laws.specs.Waiting.{course_of}
use Rattle.told_laws.specs.Course.{with_ticket}
use Rattle.solo_agent.proofs.agent.SoloAgent.take_ticket.Goals as goal

pub returns-clause-ok : goal.returns-clause-ok
returns-clause-ok g c =
    let d = c.self.inside.desk in
    let e = c.submit.new.self in
    let next = ticket_next d.limit (journal d) d.waiting e.waiting c.self.inside.tickets.items c.push.new.self.items c.self.inside.replies c.args.line.now c.args.update.now c.in_ok-position.position c.requires.caller c.in_ok-position.ensures.more c.in_ok-position.ensures.position c.in_ok-push.ensures.items in
    subst (λ (a : SoloView). course_of (journal_of e.core.published) e.waiting c.push.new.self.items c.self.inside.replies ≡ with_ticket c.args.line.now c.args.update.now a.course) c.self.view_is
    (ap (λ (k : CoreView). course_of (journal_of k.published) e.waiting c.push.new.self.items c.self.inside.replies) c.submit.ensures.core ∙ next)
