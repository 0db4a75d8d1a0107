use Rattle.switch_model.proofs.TouchedRuns.{judged_touch}
use Rattle.switch_model.proofs.laws.entries_touch_as_their_updates.Goals as goal

pub returns : goal.returns
returns c = judged_touch
