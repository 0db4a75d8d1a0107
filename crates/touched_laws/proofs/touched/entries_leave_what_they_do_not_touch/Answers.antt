use Rattle.touched_laws.proofs.LeftLaws.{entries-in_order, entries-leave, left_by_both}
use Rattle.touched_laws.proofs.touched.entries_leave_what_they_do_not_touch.Goals as goal

pub returns-clause-same : goal.returns-clause-same
returns-clause-same c = entries-leave

pub returns-clause-order : goal.returns-clause-order
returns-clause-order c = entries-in_order

pub returns-clause-both : goal.returns-clause-both
returns-clause-both c = left_by_both
