use Rattle.switch_state.proofs.Following.{follows_third}
use Rattle.state_laws.proofs.following.follows_on.Goals as goal

pub returns : goal.returns
returns c = follows_third c.requires.first c.requires.second
