use Rattle.switch_model.proofs.TouchedRuns.{both_assoc, both_none}
use Rattle.switch_model.proofs.laws.touched_keys_add_up.Goals as goal

pub returns-clause-together : goal.returns-clause-together
returns-clause-together c = both_assoc

pub returns-clause-none : goal.returns-clause-none
returns-clause-none c = both_none
