-- What becomes of an update.
use Rattle.std.specs.Prelude.{Option, None, Some}
use Rattle.switch_model.specs.declared.verdict.Reason.{Reason}
use Rattle.state_update.specs.declared.update.Applied.{Applied}
use Rattle.state_update.specs.declared.update.Applied.TheVariants.{Changed, Invalid}

-- an update against which a reason holds is invalid by it, and any other is done
abbrev pub outcome : Option Reason → Applied
outcome None = Changed
outcome (Some reason) = Invalid reason
