use Rattle.switch_model.specs.ReachLaws.{reached-exact}
use Rattle.switch_model.proofs.laws.short_chains_reach_all.Goals as goal

pub returns : goal.returns
returns c = reached-exact
