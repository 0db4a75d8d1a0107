use Rattle.run_judge.proofs.Judging.{IsJudging}
use Rattle.run_judge.proofs.judge.judge_all.Given as goal

abbrev pub invariant-loop-submission : goal.invariant-loop-submission
invariant-loop-submission l = IsJudging l.run l.submission-index l.judged.items l.fn.edit l.edit
