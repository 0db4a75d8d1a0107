use Rattle.run_judge.proofs.Judging.{judging_start, judging_step, judged_all, after_all, made_all}
use Rattle.run_judge.proofs.judge.judge_all.Goals as goal

pub loop-submission-init : goal.loop-submission-init
loop-submission-init c = judging_start c.args.run.now c.new-judged.result.items c.args.edit.now c.new-judged.ensures.items

pub loop-submission-preserved : goal.loop-submission-preserved
loop-submission-preserved c = judging_step c.args.run.now c.loop-submission.submission-index c.loop-submission.judged.items c.push.new.self.items c.args.edit.now c.loop-submission.edit c.judge_update.new.edit c.submission-item.result c.in_ok-copy.copy c.deref.result.now c.in_ok-verdict.verdict c.loop-submission.invariant c.loop-submission-test.true c.submission-item.is c.in_ok-copy.ensures.same c.deref.ensures c.in_ok-push.ensures.items c.in_ok-verdict.ensures.verdict c.in_ok-verdict.ensures.plain c.in_ok-verdict.ensures.paths c.judge_update.ensures.base c.judge_update.ensures.version c.judge_update.ensures.fibs

pub returns-clause-judged : goal.returns-clause-judged
returns-clause-judged c = judged_all c.args.run.now c.loop-submission.submission-index c.loop-submission.judged.items c.args.edit.now c.loop-submission.edit c.loop-submission.invariant c.loop-submission-test.false

pub returns-clause-plain : goal.returns-clause-plain
returns-clause-plain c = after_all c.args.run.now c.loop-submission.submission-index c.loop-submission.judged.items c.args.edit.now c.loop-submission.edit c.loop-submission.invariant c.loop-submission-test.false

pub returns-clause-paths : goal.returns-clause-paths
returns-clause-paths c = made_all c.args.run.now c.loop-submission.submission-index c.loop-submission.judged.items c.args.edit.now c.loop-submission.edit c.loop-submission.invariant c.loop-submission-test.false
