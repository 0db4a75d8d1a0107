use Rattle.shared_laws.proofs.CallLaws.{try_pumps}
use Rattle.shared_laws.proofs.counts.tries_without_bound_are_pumps.Goals as goal

pub returns : goal.returns
returns c = try_pumps
