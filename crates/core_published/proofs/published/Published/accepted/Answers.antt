use Rattle.std.proofs.Common.{ap, arith, sym, subst, ◌∙◌}
use Rattle.core_laws.proofs.JudgedLaws.{version_rises}
use Rattle.core_laws.proofs.PublishedLaws.{attempt_some}
use Rattle.core_laws.specs.Changes.{AreChanges}
use Rattle.switch_model.specs.Rows.{rows}
use Rattle.switch_state.specs.Edit.{EditView}
use Rattle.switch_state.specs.Follows.{Follows}
use Rattle.switch_state.specs.Plain.{plain}
use Rattle.switch_state.specs.StateView.{StateView}
use Rattle.state_laws.specs.Fib.{HasFib}
use Rattle.core_published.proofs.Attempting.{later_follows}
use Rattle.core_published.proofs.published.Published.accepted.Goals as goal

pub renew_fib_of-requires-clause-base : goal.renew_fib_of-requires-clause-base
renew_fib_of-requires-clause-base c = c.requires.base ∙ sym c.state.ensures.state

pub renew_fib_of-requires-clause-later : goal.renew_fib_of-requires-clause-later
renew_fib_of-requires-clause-later c = omega (arith, ap (λ (s : StateView). s.version) c.state.ensures.state, c.requires.version)

pub renew_fib_of-requires-clause-fib : goal.renew_fib_of-requires-clause-fib
renew_fib_of-requires-clause-fib c = c.state.ensures.fib

pub renew_fib_of-requires-clause-fibs : goal.renew_fib_of-requires-clause-fibs
renew_fib_of-requires-clause-fibs c = c.requires.fibs ∙ ap (λ (s : StateView). s.fibs) (sym c.state.ensures.state)

pub rows_changed-requires-clause-follows : goal.rows_changed-requires-clause-follows
rows_changed-requires-clause-follows c = subst (λ (s : StateView). Follows s c.finish-state.result) (sym c.state-2.ensures.state)
    (later_follows c.renew_fib_of.new.edit c.args.edit c.args.self.now.state c.finish-state.result c.renew_fib_of.new.edit.state.fibs c.in_ok-renew_fib_of.ensures.others c.requires.base c.requires.version c.finish-state.ensures.follows)

pub rows_changed-requires-clause-old : goal.rows_changed-requires-clause-old
rows_changed-requires-clause-old c = c.state-2.ensures.fib

pub rows_changed-requires-clause-new : goal.rows_changed-requires-clause-new
rows_changed-requires-clause-new c = subst HasFib (sym c.finish-state.ensures.state) c.in_ok-renew_fib_of.ensures.fib

pub extended-requires-clause-some : goal.extended-requires-clause-some
extended-requires-clause-some c = c.requires.there

pub extended-requires-clause-room : goal.extended-requires-clause-room
extended-requires-clause-room c = c.requires.room

pub extended-requires-clause-plain : goal.extended-requires-clause-plain
extended-requires-clause-plain c = ap (λ (s : StateView). plain s) c.finish-state.ensures.state ∙ c.in_ok-renew_fib_of.ensures.plain ∙ c.requires.plain

pub extended-requires-clause-version : goal.extended-requires-clause-version
extended-requires-clause-version c = ap (λ (s : StateView). s.version) c.finish-state.ensures.state ∙ ap (λ (e : EditView). e.state.version) c.in_ok-renew_fib_of.ensures.others ∙ c.requires.version ∙ version_rises c.args.self.now.state.version c.args.judged.items c.requires.some

pub extended-requires-clause-fib : goal.extended-requires-clause-fib
extended-requires-clause-fib c = subst HasFib (sym c.finish-state.ensures.state) c.in_ok-renew_fib_of.ensures.fib

pub returns : goal.returns
returns c = record {
  attempt = attempt_some c.args.kind c.args.judged.items c.args.self.now c.in_ok-next.next c.in_ok-share.share c.finish-state.result c.in_ok-changes.changes c.requires.some c.in_ok-next.ensures.extended c.in_ok-share.ensures.same
      (ap (λ (s : StateView). plain s) c.finish-state.ensures.state ∙ c.in_ok-renew_fib_of.ensures.plain ∙ c.requires.plain)
      (ap (λ (s : StateView). s.version) c.finish-state.ensures.state ∙ ap (λ (e : EditView). e.state.version) c.in_ok-renew_fib_of.ensures.others ∙ c.requires.version)
      (later_follows c.renew_fib_of.new.edit c.args.edit c.args.self.now.state c.finish-state.result c.renew_fib_of.new.edit.state.fibs c.in_ok-renew_fib_of.ensures.others c.requires.base c.requires.version c.finish-state.ensures.follows)
      (subst (λ (s : StateView). AreChanges (rows (plain s)) (rows (plain c.finish-state.result)) c.in_ok-changes.changes) c.state-2.ensures.state c.in_ok-changes.ensures.changes);
}
