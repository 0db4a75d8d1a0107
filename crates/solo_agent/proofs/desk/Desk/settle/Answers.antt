use Rattle.std.proofs.Common.{◌≤◌, ◌∙◌, ap, arith, subst}
use Rattle.core_laws.specs.Published.{PublishedView, journal_of}
use Rattle.solo_agent.specs.Views.{DeskView, journal}
use Rattle.solo_agent.proofs.DeskLaws.{way_next}
use Rattle.solo_laws.specs.Waiting.{IsWaiting}
use Rattle.switch_model.specs.Journal.{len}
use Rattle.solo_agent.proofs.desk.Desk.settle.Goals as goal

pub loop-alloc-preserved : goal.loop-alloc-preserved
loop-alloc-preserved g c =
    let holds = subst (λ (d : DeskView). IsWaiting d.limit (journal d) d.waiting) c.self.view_is c.self.invariant in
    let front = c.front.ensures.entries ∙ ap (λ (p : PublishedView). len (journal_of p)) c.published.ensures.published in
    let here : len (journal_of c.self.inside.core.published) ≤ c.args.position = omega (arith, c.loop-alloc-test.true, front) in
    let behind = subst (λ (d : DeskView). len (journal d) ≤ c.args.position) c.self.view_is here in
    way_next c.args.position c.args.self.now c.loop-alloc.self c.round.new.self c.loop-alloc.invariant holds behind c.round.ensures.stays c.in_ok-round.ensures.next
