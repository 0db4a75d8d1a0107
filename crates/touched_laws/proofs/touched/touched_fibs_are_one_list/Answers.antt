use Rattle.touched_laws.proofs.FibEntries.{touched_fibs-had, touched_fibs-one, touched_fibs-only}
use Rattle.touched_laws.proofs.touched.touched_fibs_are_one_list.Goals as goal

pub returns-clause-some : goal.returns-clause-some
returns-clause-some c = touched_fibs-had

pub returns-clause-one : goal.returns-clause-one
returns-clause-one c = touched_fibs-one

pub returns-clause-only : goal.returns-clause-only
returns-clause-only c = touched_fibs-only
