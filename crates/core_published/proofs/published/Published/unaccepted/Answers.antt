use Rattle.std.proofs.Common.{ap, sym, subst, ◌∙◌}
use Rattle.core_laws.proofs.JudgedLaws.{unaccepted, version_stays}
use Rattle.core_laws.proofs.PublishedLaws.{attempt_none}
use Rattle.switch_state.specs.Plain.{plain}
use Rattle.switch_state.specs.StateView.{StateView}
use Rattle.state_laws.specs.Fib.{HasFib}
use Rattle.core_published.proofs.published.Published.unaccepted.Goals as goal

pub extended-requires-clause-some : goal.extended-requires-clause-some
extended-requires-clause-some c = c.requires.there

pub extended-requires-clause-room : goal.extended-requires-clause-room
extended-requires-clause-room c = c.requires.room

pub extended-requires-clause-plain : goal.extended-requires-clause-plain
extended-requires-clause-plain c = ap (λ (s : StateView). plain s) (c.in_ok-state.ensures ∙ c.state.ensures.state) ∙ sym (unaccepted (plain c.args.self.now.state) c.args.judged.items c.requires.none)

pub extended-requires-clause-version : goal.extended-requires-clause-version
extended-requires-clause-version c = ap (λ (s : StateView). s.version) (c.in_ok-state.ensures ∙ c.state.ensures.state) ∙ version_stays c.args.self.now.state.version c.args.judged.items c.requires.none

pub extended-requires-clause-fib : goal.extended-requires-clause-fib
extended-requires-clause-fib c = subst HasFib (sym c.in_ok-state.ensures) c.state.ensures.fib

pub returns : goal.returns
returns c = record { attempt = attempt_none c.args.kind c.args.judged.items c.args.self.now c.in_ok-next.next c.in_ok-share.share c.in_ok-state.state c.requires.none c.in_ok-next.ensures.extended c.in_ok-share.ensures.same (c.in_ok-state.ensures ∙ c.state.ensures.state) c.shape.ensures.follows }
