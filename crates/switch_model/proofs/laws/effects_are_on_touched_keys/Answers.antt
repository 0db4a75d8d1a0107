use Rattle.switch_model.proofs.Leaving.{leaves}
use Rattle.switch_model.proofs.laws.effects_are_on_touched_keys.Goals as goal

pub returns : goal.returns
returns c = λ m act asc. leaves m act asc
