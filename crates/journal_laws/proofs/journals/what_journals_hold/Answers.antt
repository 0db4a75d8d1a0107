use Rattle.journal_laws.proofs.MayComeLaws.{may_come_entry, may_come_own, sent_split}
use Rattle.journal_laws.proofs.journals.what_journals_hold.Goals as goal

pub returns-clause-split : goal.returns-clause-split
returns-clause-split c = sent_split

pub returns-clause-entry : goal.returns-clause-entry
returns-clause-entry c = may_come_entry

pub returns-clause-own : goal.returns-clause-own
returns-clause-own c = may_come_own
