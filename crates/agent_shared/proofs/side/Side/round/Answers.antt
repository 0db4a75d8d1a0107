use Rattle.std.proofs.Common.{◌≡◌, ◌≤◌, ◌+◌, ap, length, subst, sym}
use Rattle.agent_core.specs.declared.rounds.RoundDone.{RoundDone}
use Rattle.core_laws.specs.Published.{IsPublished, journal_of}
use Rattle.core_laws.specs.Rounds.{IsSettled}
use Rattle.shared_laws.specs.Ground.{SideView, journal_at}
use Rattle.switch_model.specs.Journal.{len}
use Rattle.switch_model.specs.Legal.{IsRun}
use Rattle.switch_model.specs.Round.{next_round}
use Rattle.agent_shared.proofs.Results.{if_ok_both, if_ok_so, on_err_both, on_ok_so}
use Rattle.agent_shared.proofs.Sides.{side_room, side_settles, side_size, side_some, side_stays, side_version}
use Rattle.agent_shared.proofs.side.Side.round.Goals as goal

pub round-requires-clause-run : goal.round-requires-clause-run
round-requires-clause-run g c = subst (λ (s : SideView). IsRun s.run) (sym c.self.view_is) c.requires.run

pub round-requires-clause-room : goal.round-requires-clause-room
round-requires-clause-room g c = side_room c.self.inside.core c.self.inside.run c.self.inside.limit c.args.self.now c.self.view_is c.requires.room c.requires.fits

pub round-requires-clause-version : goal.round-requires-clause-version
round-requires-clause-version g c =
    side_version c.self.inside.core c.self.inside.run c.self.inside.limit c.args.self.now c.self.view_is c.shape.ensures.core (subst IsPublished c.published.ensures.published c.shape-2.ensures.published) c.requires.run c.requires.room c.requires.fits

pub returns-clause-ok : goal.returns-clause-ok
returns-clause-ok g c =
    let s = c.self.inside in
    let f = λ (done : IsSettled s.run s.core c.round.new.self). side_settles s.core c.round.new.self s.run s.limit c.args.self.now c.self.view_is done in
    on_ok_so c.round.result f c.round.ensures.settled

pub returns-clause-published : goal.returns-clause-published
returns-clause-published g c =
    let new = c.round.new.self in
    if_ok_so (λ (done : RoundDone). done.published ≡ new.published) (λ (done : RoundDone). journal_of done.published ≡ journal_of new.published) c.round.result (λ done e. ap journal_of e) c.round.ensures.published

pub returns-clause-settled : goal.returns-clause-settled
returns-clause-settled g c =
    let s = c.self.inside in
    let old = c.args.self.now in
    let new = c.round.new.self in
    if_ok_both (λ (done : RoundDone). len (journal_of s.core.published) + done.settled ≡ len (journal_of new.published)) (λ (done : RoundDone). length (next_round (journal_at old.basis old.rounds) old.run).entries ≡ done.settled) c.round.result
    (λ done is e. side_size s.core new s.run s.limit done.settled old c.self.view_is is e) c.round.ensures.settled c.round.ensures.entries

pub returns-clause-some : goal.returns-clause-some
returns-clause-some g c =
    let s = c.self.inside in
    let new = c.round.new.self in
    let is_run = subst (λ (x : SideView). IsRun x.run) (sym c.self.view_is) c.requires.run in
    if_ok_both (λ (done : RoundDone). len (journal_of s.core.published) + done.settled ≡ len (journal_of new.published)) (λ (done : RoundDone). 1 ≤ done.settled) c.round.result
    (λ done is e. side_some s.core new s.run s.limit done.settled c.shape.ensures.core is_run is e) c.round.ensures.settled c.round.ensures.entries

pub returns-clause-err : goal.returns-clause-err
returns-clause-err g c =
    let s = c.self.inside in
    let new = c.round.new.self in
    let f = λ (p : new.published ≡ s.core.published) (a : new.audience ≡ s.core.audience). side_stays s.core new s.run s.limit c.args.self.now c.self.view_is p a in
    on_err_both c.round.result f c.round.ensures.published_kept c.round.ensures.audience_kept
