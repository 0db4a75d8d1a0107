use Rattle.std.proofs.Common.{◌≡◌}
use Rattle.agent_core.proofs.switch_core.Core.shape.Goals as goal

pub returns-clause-core : goal.returns-clause-core
returns-clause-core g c = rw (← c.self.view_is) c.self.invariant

pub returns-clause-chip : goal.returns-clause-chip
returns-clause-chip g c = rw (← c.self.view_is) (g.met.C.HwSwitch.sound c.self.inside.chip)
