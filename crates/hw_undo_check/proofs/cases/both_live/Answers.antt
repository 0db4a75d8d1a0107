use Rattle.std.proofs.Common.{◌∙◌}
use Rattle.hw_undo_check.proofs.cases.both_live.Goals as goal

pub returns : goal.returns
returns c = c.from_vec.ensures ∙ c.in_ok-vec.ensures.items
