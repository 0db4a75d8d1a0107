use Rattle.state_update.proofs.Building.{IsBuilding}
use Rattle.state_update.proofs.acts.do_acts.Given as goal

abbrev pub invariant-loop-index : goal.invariant-loop-index
invariant-loop-index l = IsBuilding l.acts l.index l.fn.edit l.edit
