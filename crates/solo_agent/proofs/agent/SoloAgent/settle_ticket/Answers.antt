use Rattle.std.proofs.Common.{◌≡◌, refl, subst}
use Rattle.solo_agent.specs.Views.{SoloView, journal}
use Rattle.solo_laws.proofs.CourseLaws.{one_settled}
use Rattle.solo_laws.specs.Waiting.{course_of}
use Rattle.told_laws.specs.Course.{Ticket, settle_one}
use Rattle.solo_agent.proofs.agent.SoloAgent.settle_ticket.Goals as goal

pub returns-clause-ok : goal.returns-clause-ok
returns-clause-ok g c =
    let d = c.self.inside.desk in
    let e = c.settle.new.self in
    let t : Ticket = record { line = c.ticket.inside.line; position = c.ticket.inside.position } in
    let done = one_settled (journal d) (journal e) d.waiting e.waiting c.self.inside.tickets.items c.self.inside.tickets.items c.self.inside.replies c.push.new.self t c.reply_at-reply.result c.settle.ensures.stays.sent c.in_ok-settle.ensures.ok refl c.reply_at-reply.ensures c.in_ok-push.ensures.ok in
    subst (λ (a : SoloView). course_of (journal e) e.waiting c.self.inside.tickets.items c.push.new.self ≡ settle_one c.args.ticket a.course) c.self.view_is
    (subst (λ (s : Ticket). course_of (journal e) e.waiting c.self.inside.tickets.items c.push.new.self ≡ settle_one s (course_of (journal d) d.waiting c.self.inside.tickets.items c.self.inside.replies)) c.ticket.view_is done)
