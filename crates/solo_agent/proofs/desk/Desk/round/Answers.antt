use Rattle.std.proofs.Common.{◌≡◌, ◌≤◌, ◌<◌, ◌+◌, ◌^◌, ◌∙◌, ℕ, List, ap, length, subst, sym}
use Rattle.core_laws.specs.Published.{IsPublished, PublishedView, journal_of}
use Rattle.solo_agent.specs.Views.{DeskView, Stays, journal}
use Rattle.solo_agent.proofs.DeskLaws.{round_version, settled_count, settled_next, settled_stays}
use Rattle.solo_laws.proofs.WaitingLaws.{IsNext, next_room, next_run, next_within, pump_next}
use Rattle.solo_laws.specs.Waiting.{IsWaiting, pumped}
use Rattle.switch_model.specs.declared.act.Submission.{Submission}
use Rattle.switch_model.specs.Journal.{Journal, len}
use Rattle.switch_model.specs.Legal.{IsRun}
use Rattle.switch_model.specs.Round.{next_round, run}
use Rattle.solo_agent.proofs.desk.Desk.round.Goals as goal

pub round-requires-clause-run : goal.round-requires-clause-run
round-requires-clause-run g c =
    let some = subst (λ (d : DeskView). 1 ≤ length d.waiting) (sym c.self.view_is) c.requires.some in
    subst IsRun (sym c.in_ok-load.ensures.run) (next_run c.self.inside.pending some)

pub round-requires-clause-room : goal.round-requires-clause-room
round-requires-clause-room g c =
    subst (λ (q : List Submission). len (journal_of c.self.inside.core.published) + length q < 2 ^ 64) (sym c.in_ok-load.ensures.run) (next_room c.self.inside.limit (journal_of c.self.inside.core.published) c.self.inside.pending c.self.invariant)

pub round-requires-clause-version : goal.round-requires-clause-version
round-requires-clause-version g c =
    let some = subst (λ (d : DeskView). 1 ≤ length d.waiting) (sym c.self.view_is) c.requires.some in
    round_version c.self.inside.limit c.self.inside.core.published c.self.inside.pending (subst IsPublished c.published.ensures.published c.shape.ensures.published) c.self.invariant some

pub invariant_of-self-in_err-done : goal.invariant_of-self-in_err-done
invariant_of-self-in_err-done g c = subst (λ (p : PublishedView). IsWaiting c.self.inside.limit (journal_of p) c.self.inside.pending) (sym c.in_err-done.ensures.published_kept) c.self.invariant

pub drop_front-requires : goal.drop_front-requires
drop_front-requires g c =
    let some = subst (λ (d : DeskView). 1 ≤ length d.waiting) (sym c.self.view_is) c.requires.some in
    let ran : c.load.new.self ≡ run c.self.inside.pending = c.in_ok-load.ensures.run in
    let j : Journal = journal_of c.self.inside.core.published in
    record { there = subst (λ (n : ℕ). n ≤ length c.self.inside.pending) (sym ((settled_count c.self.inside.core c.round.new.self c.load.new.self c.in_ok-done.done.settled c.in_ok-done.ensures.settled c.in_ok-done.ensures.entries) ∙ ap (λ (l : List Submission). length (next_round j l).entries) ran)) (next_within c.self.inside.limit j c.self.inside.pending c.self.invariant some) }

pub invariant_of-self-2 : goal.invariant_of-self-2
invariant_of-self-2 g c =
    let some = subst (λ (d : DeskView). 1 ≤ length d.waiting) (sym c.self.view_is) c.requires.some in
    (settled_next c.self.inside.limit c.self.inside.core c.round.new.self c.self.inside.pending c.drop_front.new.self c.load.new.self c.in_ok-done.done.settled c.self.invariant some c.in_ok-load.ensures.run c.in_ok-done.ensures.settled (settled_count c.self.inside.core c.round.new.self c.load.new.self c.in_ok-done.done.settled c.in_ok-done.ensures.settled c.in_ok-done.ensures.entries) c.drop_front.ensures.list).waiting

pub returns-clause-stays : goal.returns-clause-stays
returns-clause-stays g c =
    let some = subst (λ (d : DeskView). 1 ≤ length d.waiting) (sym c.self.view_is) c.requires.some in
    let next = settled_next c.self.inside.limit c.self.inside.core c.round.new.self c.self.inside.pending c.drop_front.new.self c.load.new.self c.in_ok-done.done.settled c.self.invariant some c.in_ok-load.ensures.run c.in_ok-done.ensures.settled (settled_count c.self.inside.core c.round.new.self c.load.new.self c.in_ok-done.done.settled c.in_ok-done.ensures.settled c.in_ok-done.ensures.entries) c.drop_front.ensures.list in
    subst (λ (d : DeskView). Stays d (record { core = c.round.new.self; waiting = c.drop_front.new.self; limit = c.self.inside.limit })) c.self.view_is
    (settled_stays c.self.inside.limit c.self.inside.core c.round.new.self c.self.inside.pending c.drop_front.new.self c.load.new.self c.in_ok-done.ensures.settled next)

pub returns-clause-next : goal.returns-clause-next
returns-clause-next g c =
    let some = subst (λ (d : DeskView). 1 ≤ length d.waiting) (sym c.self.view_is) c.requires.some in
    subst (λ (d : DeskView). IsNext d.limit (journal d) d.waiting (journal_of c.round.new.self.published) c.drop_front.new.self) c.self.view_is
    (settled_next c.self.inside.limit c.self.inside.core c.round.new.self c.self.inside.pending c.drop_front.new.self c.load.new.self c.in_ok-done.done.settled c.self.invariant some c.in_ok-load.ensures.run c.in_ok-done.ensures.settled (settled_count c.self.inside.core c.round.new.self c.load.new.self c.in_ok-done.done.settled c.in_ok-done.ensures.settled c.in_ok-done.ensures.entries) c.drop_front.ensures.list)

pub returns-clause-journal : goal.returns-clause-journal
returns-clause-journal g c =
    let some = subst (λ (d : DeskView). 1 ≤ length d.waiting) (sym c.self.view_is) c.requires.some in
    let both = pump_next (journal_of c.self.inside.core.published) (journal_of c.round.new.self.published) c.self.inside.pending c.load.new.self c.in_ok-done.done.settled some c.in_ok-load.ensures.run c.in_ok-done.ensures.settled.journal (settled_count c.self.inside.core c.round.new.self c.load.new.self c.in_ok-done.done.settled c.in_ok-done.ensures.settled c.in_ok-done.ensures.entries) in
    subst (λ (d : DeskView). journal_of c.round.new.self.published ≡ (pumped d.waiting (journal d)).1) c.self.view_is both.1

pub returns-clause-count : goal.returns-clause-count
returns-clause-count g c =
    let some = subst (λ (d : DeskView). 1 ≤ length d.waiting) (sym c.self.view_is) c.requires.some in
    let both = pump_next (journal_of c.self.inside.core.published) (journal_of c.round.new.self.published) c.self.inside.pending c.load.new.self c.in_ok-done.done.settled some c.in_ok-load.ensures.run c.in_ok-done.ensures.settled.journal (settled_count c.self.inside.core c.round.new.self c.load.new.self c.in_ok-done.done.settled c.in_ok-done.ensures.settled c.in_ok-done.ensures.entries) in
    subst (λ (d : DeskView). c.in_ok-done.done.settled ≡ (pumped d.waiting (journal d)).0) c.self.view_is both.0
