use Rattle.journal_laws.proofs.RestsOnLaws.{last_alone, may_come_63, may_come_alone, may_come_settled}
use Rattle.journal_laws.proofs.journals.what_journals_rest_on.Goals as goal

pub returns-clause-few : goal.returns-clause-few
returns-clause-few c = may_come_63

pub returns-clause-settled : goal.returns-clause-settled
returns-clause-settled c = may_come_settled

pub returns-clause-alone : goal.returns-clause-alone
returns-clause-alone c = may_come_alone

pub returns-clause-last : goal.returns-clause-last
returns-clause-last c = last_alone
