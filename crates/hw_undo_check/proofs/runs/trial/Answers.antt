use Rattle.hw_undo_check.proofs.Oks.{err_as}
use Rattle.hw_undo_check.proofs.runs.trial.Goals as goal

pub returns-in-Ok-clause-first : goal.returns-in-Ok-clause-first
returns-in-Ok-clause-first c = c.in_ok-answer.ensures.first

pub returns-in-Ok-clause-err : goal.returns-in-Ok-clause-err
returns-in-Ok-clause-err c = err_as c.in_ok-answer.answer _ c.args.tables c.in-Ok.tables c.in-Ok.ensures c.in_ok-answer.ensures.err
