use Rattle.std.proofs.Common.{ap, arith, sym, subst, ◌∙◌}
use Rattle.core_laws.proofs.PublishedLaws.{refusal_made, refused_plain, refused_version}
use Rattle.switch_state.specs.Plain.{plain}
use Rattle.switch_state.specs.StateView.{StateView}
use Rattle.state_laws.specs.Fib.{HasFib}
use Rattle.core_published.proofs.Attempting.{refused_count}
use Rattle.core_published.proofs.published.Published.refused.Goals as goal

pub extended-requires-clause-some : goal.extended-requires-clause-some
extended-requires-clause-some c = omega (arith, refused_count c.args.table c.args.run.now c.in_ok-judged.judged.items c.requires.some c.in_ok-judged.ensures.first)

pub extended-requires-clause-room : goal.extended-requires-clause-room
extended-requires-clause-room c = omega (arith, refused_count c.args.table c.args.run.now c.in_ok-judged.judged.items c.requires.some c.in_ok-judged.ensures.first, c.requires.room)

pub extended-requires-clause-plain : goal.extended-requires-clause-plain
extended-requires-clause-plain c = ap (λ (s : StateView). plain s) (c.in_ok-state.ensures ∙ c.state.ensures.state) ∙ refused_plain c.args.table c.args.run.now c.in_ok-judged.judged.items (plain c.args.self.now.state) c.in_ok-judged.ensures.first

pub extended-requires-clause-version : goal.extended-requires-clause-version
extended-requires-clause-version c = ap (λ (s : StateView). s.version) (c.in_ok-state.ensures ∙ c.state.ensures.state) ∙ refused_version c.args.table c.args.run.now c.in_ok-judged.judged.items c.args.self.now.state.version c.in_ok-judged.ensures.first

pub extended-requires-clause-fib : goal.extended-requires-clause-fib
extended-requires-clause-fib c = subst HasFib (sym c.in_ok-state.ensures) c.state.ensures.fib

pub returns : goal.returns
returns c = record { refusal = refusal_made c.args.table c.args.run.now c.in_ok-judged.judged.items c.args.self.now c.in_ok-next.next c.in_ok-share.share c.in_ok-state.state c.in_ok-judged.ensures.first c.in_ok-next.ensures.extended c.in_ok-share.ensures.same (c.in_ok-state.ensures ∙ c.state.ensures.state) c.shape.ensures.follows }
