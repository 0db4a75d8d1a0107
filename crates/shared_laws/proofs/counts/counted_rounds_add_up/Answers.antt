use Rattle.shared_laws.proofs.CallLaws.{rounds_one, rounds_same, rounds_trans, rounds_wider}
use Rattle.shared_laws.proofs.counts.counted_rounds_add_up.Goals as goal

pub returns-clause-none : goal.returns-clause-none
returns-clause-none c = rounds_same

pub returns-clause-one : goal.returns-clause-one
returns-clause-one c = rounds_one

pub returns-clause-wider : goal.returns-clause-wider
returns-clause-wider c = rounds_wider

pub returns-clause-both : goal.returns-clause-both
returns-clause-both c = rounds_trans
