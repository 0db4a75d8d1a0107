use Rattle.std.proofs.Common.{ap, sym, ◌∙◌}
use Rattle.switch_model.specs.Reason.{reason}
use Rattle.switch_model.specs.Round.{verdict_in_run}
use Rattle.switch_state.specs.Edit.{EditView}
use Rattle.switch_state.specs.Plain.{plain}
use Rattle.run_judge.proofs.Judging.{accepted_by, accepted_paths, accepted_plain, invalid_by, invalid_paths, invalid_plain}
use Rattle.run_judge.proofs.judge.judge_update.Goals as goal

pub returns-in-Changed-clause-verdict : goal.returns-in-Changed-clause-verdict
returns-in-Changed-clause-verdict c = accepted_by (reason (plain c.args.edit.now.state) c.args.update.now) (sym c.in-Changed.is ∙ c.in_ok-apply.ensures.answer)

pub returns-in-Changed-clause-plain : goal.returns-in-Changed-clause-plain
returns-in-Changed-clause-plain c = accepted_plain (plain c.args.edit.now.state) (plain c.apply.new.edit.state) c.args.update.now (verdict_in_run (reason (plain c.args.edit.now.state) c.args.update.now)) (accepted_by (reason (plain c.args.edit.now.state) c.args.update.now) (sym c.in-Changed.is ∙ c.in_ok-apply.ensures.answer)) (c.in_ok-apply.ensures.changed c.in-Changed.is)

pub returns-in-Changed-clause-paths : goal.returns-in-Changed-clause-paths
returns-in-Changed-clause-paths c = accepted_paths c.args.edit.now.state.version (plain c.args.edit.now.state) c.args.update.now (verdict_in_run (reason (plain c.args.edit.now.state) c.args.update.now)) c.args.edit.now.state c.apply.new.edit.state (accepted_by (reason (plain c.args.edit.now.state) c.args.update.now) (sym c.in-Changed.is ∙ c.in_ok-apply.ensures.answer)) c.apply.ensures.paths

pub returns-in-Invalid-clause-verdict : goal.returns-in-Invalid-clause-verdict
returns-in-Invalid-clause-verdict c = invalid_by (reason (plain c.args.edit.now.state) c.args.update.now) c.in-Invalid.reason (sym c.in-Invalid.is ∙ c.in_ok-apply.ensures.answer)

pub returns-in-Invalid-clause-plain : goal.returns-in-Invalid-clause-plain
returns-in-Invalid-clause-plain c = invalid_plain (plain c.args.edit.now.state) (plain c.apply.new.edit.state) c.args.update.now c.in-Invalid.reason (verdict_in_run (reason (plain c.args.edit.now.state) c.args.update.now)) (invalid_by (reason (plain c.args.edit.now.state) c.args.update.now) c.in-Invalid.reason (sym c.in-Invalid.is ∙ c.in_ok-apply.ensures.answer)) (ap (λ (e : EditView). plain e.state) (c.in_ok-apply.ensures.invalid c.in-Invalid.reason c.in-Invalid.is))

pub returns-in-Invalid-clause-paths : goal.returns-in-Invalid-clause-paths
returns-in-Invalid-clause-paths c = invalid_paths c.args.edit.now.state.version (plain c.args.edit.now.state) c.args.update.now c.in-Invalid.reason (verdict_in_run (reason (plain c.args.edit.now.state) c.args.update.now)) c.args.edit.now.state c.apply.new.edit.state (invalid_by (reason (plain c.args.edit.now.state) c.args.update.now) c.in-Invalid.reason (sym c.in-Invalid.is ∙ c.in_ok-apply.ensures.answer)) (ap (λ (e : EditView). e.state) (c.in_ok-apply.ensures.invalid c.in-Invalid.reason c.in-Invalid.is))
