use Rattle.core_laws.proofs.SettledLaws.{one_settled, whole_settled}
use Rattle.core_laws.proofs.rounds.rounds_settle_runs.Goals as goal

pub returns-clause-whole : goal.returns-clause-whole
returns-clause-whole c = whole_settled

pub returns-clause-one : goal.returns-clause-one
returns-clause-one c = one_settled
