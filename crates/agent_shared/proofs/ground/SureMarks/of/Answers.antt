use Rattle.std.proofs.Common.{◌∙◌, ap}
use Rattle.agent_shared.proofs.Marks.{marks_back}
use Rattle.agent_shared.proofs.ground.SureMarks.of.Goals as goal
use Rattle.agent_shared.specs.Views.{marked}

pub returns : goal.returns
returns g c = record { sure = ap marked c.of.ensures ∙ marks_back c.args.core.now.audience.watches }
