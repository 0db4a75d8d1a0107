use Rattle.std.proofs.Common.{◌≡◌, ◌<◌, ◌∙◌, ◌++◌, ◌∷◌, [], List, ap, length, subst, sym}
use Rattle.core_laws.specs.Published.{journal_of}
use Rattle.solo_agent.specs.Views.{DeskView, journal, sent}
use Rattle.solo_laws.proofs.WaitingLaws.{IsMore, submit_next}
use Rattle.solo_laws.specs.Waiting.{IsWaiting}
use Rattle.switch_model.specs.declared.act.Submission.{Submission}
use Rattle.switch_model.specs.declared.act.Update.{Update}
use Rattle.solo_agent.proofs.desk.Desk.submit.Goals as goal

pub invariant_of-self : goal.invariant_of-self
invariant_of-self g c = subst (λ (p : List Submission). IsWaiting c.self.inside.limit (journal_of c.self.inside.core.published) p) (sym c.in_err-push_last.ensures.err) c.self.invariant

pub invariant_of-self-2 : goal.invariant_of-self-2
invariant_of-self-2 g c =
    let room = subst (λ (d : DeskView). length (sent d) < d.limit) (sym c.self.view_is) c.requires.room in
    let first = subst (λ (d : DeskView). c.sent-seq.result ≡ length (sent d)) (sym c.self.view_is) c.sent-seq.ensures in
    let added = c.in_ok-push_last.ensures.ok ∙ ap (λ (u : Update). c.self.inside.pending ++ record { caller = 0; seq = c.sent-seq.result; update = u } ∷ []) (c.in_ok-update-2.ensures.value ∙ c.in_ok-update.ensures.same) in
    (submit_next c.self.inside.limit (journal_of c.self.inside.core.published) c.self.inside.pending c.push_last.new.pending c.args.update.now c.sent-seq.result c.self.invariant room first added).waiting

pub returns-clause-more : goal.returns-clause-more
returns-clause-more g c =
    let room = subst (λ (d : DeskView). length (sent d) < d.limit) (sym c.self.view_is) c.requires.room in
    let first = subst (λ (d : DeskView). c.sent-seq.result ≡ length (sent d)) (sym c.self.view_is) c.sent-seq.ensures in
    let added = c.in_ok-push_last.ensures.ok ∙ ap (λ (u : Update). c.self.inside.pending ++ record { caller = 0; seq = c.sent-seq.result; update = u } ∷ []) (c.in_ok-update-2.ensures.value ∙ c.in_ok-update.ensures.same) in
    subst (λ (d : DeskView). IsMore d.limit (journal d) d.waiting c.push_last.new.pending c.args.update.now) c.self.view_is
    (submit_next c.self.inside.limit (journal_of c.self.inside.core.published) c.self.inside.pending c.push_last.new.pending c.args.update.now c.sent-seq.result c.self.invariant room first added)
