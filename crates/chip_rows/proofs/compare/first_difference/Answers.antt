use Rattle.chip_rows.proofs.DifferenceLaws.{before, differs, none}
use Rattle.chip_rows.proofs.compare.first_difference.Goals as goal

pub returns-clause-none : goal.returns-clause-none
returns-clause-none c = none c.args.a.now c.args.b.now c.first_unlike.result c.first_unlike.ensures

pub returns-clause-differs : goal.returns-clause-differs
returns-clause-differs c = differs c.args.a.now c.args.b.now c.first_unlike.result c.first_unlike.ensures

pub returns-clause-before : goal.returns-clause-before
returns-clause-before c = before c.args.a.now c.args.b.now c.first_unlike.result c.first_unlike.ensures
