use Rattle.std.proofs.Common.{◌≡◌, subst}
use Rattle.solo_agent.specs.Views.{SoloView, journal}
use Rattle.solo_laws.proofs.CourseLaws.{pump_told}
use Rattle.solo_laws.specs.Waiting.{course_of}
use Rattle.switch_model.specs.Journal.{pending}
use Rattle.told_laws.specs.Course.{pump_by}
use Rattle.solo_agent.proofs.agent.SoloAgent.pump_line.Goals as goal

pub returns-clause-ok : goal.returns-clause-ok
returns-clause-ok g c =
    let d = c.self.inside.desk in
    let e = c.pump.new.self in
    subst (λ (a : SoloView). course_of (journal e) e.waiting c.self.inside.tickets.items c.push.new.self ≡ pump_by c.args.line (pending a.course.sent a.course.journal) a.course) c.self.view_is
    (pump_told (journal d) (journal e) d.waiting e.waiting c.self.inside.tickets.items c.self.inside.replies c.push.new.self c.args.line c.in_ok-count.count c.pump.ensures.stays.sent c.in_ok-count.ensures.count c.in_ok-count.ensures.journal c.in_ok-push.ensures.ok)
