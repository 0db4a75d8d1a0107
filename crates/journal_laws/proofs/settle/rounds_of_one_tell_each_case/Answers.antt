use Rattle.journal_laws.proofs.SettledLaws.{settled_alone, verdict_alone-accepted, verdict_alone-full, verdict_alone-invalid}
use Rattle.journal_laws.proofs.settle.rounds_of_one_tell_each_case.Goals as goal

pub returns-clause-alone : goal.returns-clause-alone
returns-clause-alone c = settled_alone

pub returns-clause-invalid : goal.returns-clause-invalid
returns-clause-invalid c = verdict_alone-invalid

pub returns-clause-full : goal.returns-clause-full
returns-clause-full c = verdict_alone-full

pub returns-clause-accepted : goal.returns-clause-accepted
returns-clause-accepted c = verdict_alone-accepted
