use Rattle.route_laws.proofs.MovedKeys.{moved-had, moved-one}
use Rattle.route_laws.proofs.moved.moved_keys_are_one_list.Goals as goal

pub returns-clause-some : goal.returns-clause-some
returns-clause-some c = moved-had

pub returns-clause-one : goal.returns-clause-one
returns-clause-one c = moved-one
