use Rattle.journal_laws.proofs.MayComeLaws.{next_progress, pending_next, may_come_beginning, may_come_prefix, may_come_round, may_come_start, settles_loaded, settles_next}
use Rattle.journal_laws.proofs.RestsOnLaws.{may_come_last}
use Rattle.journal_laws.proofs.journals.journals_come_step_by_step.Goals as goal

pub returns-clause-start : goal.returns-clause-start
returns-clause-start c = may_come_start

pub returns-clause-more : goal.returns-clause-more
returns-clause-more c = may_come_prefix

pub returns-clause-next : goal.returns-clause-next
returns-clause-next c = settles_next

pub returns-clause-settled : goal.returns-clause-settled
returns-clause-settled c = may_come_round

pub returns-clause-left : goal.returns-clause-left
returns-clause-left c = pending_next

pub returns-clause-beginning : goal.returns-clause-beginning
returns-clause-beginning c = may_come_beginning

pub returns-clause-last : goal.returns-clause-last
returns-clause-last c = may_come_last

pub returns-clause-progress : goal.returns-clause-progress
returns-clause-progress c = next_progress

pub returns-clause-loaded : goal.returns-clause-loaded
returns-clause-loaded c = settles_loaded
