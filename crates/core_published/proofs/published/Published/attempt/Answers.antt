use Rattle.std.proofs.Common.{ap, arith, ◌+◌, ℕ, ◌∙◌}
use Rattle.switch_state.specs.Plain.{plain}
use Rattle.switch_state.specs.StateView.{StateView}
use Rattle.core_laws.proofs.PublishedLaws.{attempt_of}
use Rattle.core_published.proofs.Attempting.{judged_count, judged_plain, judged_there}
use Rattle.core_published.proofs.published.Published.attempt.Goals as goal

pub tried-requires-clause-there : goal.tried-requires-clause-there
tried-requires-clause-there c = omega (arith, judged_count (plain c.in_ok-edit.edit.state) c.args.run.now c.in_ok-judged.judged.items c.in_ok-judged.ensures.judged, c.requires.some)

pub tried-requires-clause-room : goal.tried-requires-clause-room
tried-requires-clause-room c = omega (arith, judged_count (plain c.in_ok-edit.edit.state) c.args.run.now c.in_ok-judged.judged.items c.in_ok-judged.ensures.judged, c.requires.room)

pub tried-requires-clause-base : goal.tried-requires-clause-base
tried-requires-clause-base c = c.judge_all.ensures.base ∙ c.in_ok-edit.ensures.base ∙ c.state-state.ensures.state

pub tried-requires-clause-version : goal.tried-requires-clause-version
tried-requires-clause-version c = c.judge_all.ensures.version ∙ ap (λ (s : StateView). s.version) c.in_ok-edit.ensures.state ∙ ap (λ (n : ℕ). n + 1) (c.version.ensures ∙ ap (λ (s : StateView). s.version) c.state-state.ensures.state)

pub tried-requires-clause-fibs : goal.tried-requires-clause-fibs
tried-requires-clause-fibs c = c.judge_all.ensures.fibs ∙ ap (λ (s : StateView). s.fibs) c.in_ok-edit.ensures.state ∙ ap (λ (s : StateView). s.fibs) c.state-state.ensures.state

pub tried-requires-clause-plain : goal.tried-requires-clause-plain
tried-requires-clause-plain c = judged_plain (plain c.in_ok-edit.edit.state) (plain c.args.self.now.state) (plain c.judge_all.new.edit.state) c.args.run.now c.in_ok-judged.judged.items (ap (λ (s : StateView). plain s) c.in_ok-edit.ensures.state ∙ ap (λ (s : StateView). plain s) c.state-state.ensures.state) c.in_ok-judged.ensures.judged c.in_ok-judged.ensures.plain

pub returns : goal.returns
returns c = record {
  attempt = attempt_of c.args.kind c.args.run.now c.in_ok-judged.judged.items c.args.self.now c.in_ok-attempt.attempt.next c.in_ok-attempt.attempt.share c.in_ok-attempt.attempt.changes
      (judged_there (plain c.in_ok-edit.edit.state) (plain c.args.self.now.state) c.args.run.now c.in_ok-judged.judged.items (ap (λ (s : StateView). plain s) c.in_ok-edit.ensures.state ∙ ap (λ (s : StateView). plain s) c.state-state.ensures.state) c.in_ok-judged.ensures.judged)
      c.in_ok-attempt.ensures.attempt;
}
