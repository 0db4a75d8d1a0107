use Rattle.switch_state.proofs.Following.{follows_self}
use Rattle.state_laws.proofs.following.follows_itself.Goals as goal

pub returns : goal.returns
returns c = follows_self c.shape.ensures.state
