use Rattle.std.proofs.Common.{◌≤◌}
use Rattle.told_laws.proofs.ClosingLaws.{all_settled, caller_settled, told_closes}
use Rattle.told_laws.proofs.callers.all_is_settled_in_the_end.Goals as goal

pub returns-clause-own : goal.returns-clause-own
returns-clause-own c = λ limit n p sent j done ts has begins mine front. caller_settled (limit ≤ n) p sent j done ts has begins mine front

pub returns-clause-all : goal.returns-clause-all
returns-clause-all c = all_settled

pub returns-clause-told : goal.returns-clause-told
returns-clause-told c = told_closes
