use Rattle.shared_laws.proofs.DeskLaws.{round_leaves}
use Rattle.shared_laws.proofs.desks.rounds_leave_the_rest.Goals as goal

pub returns : goal.returns
returns c = round_leaves
