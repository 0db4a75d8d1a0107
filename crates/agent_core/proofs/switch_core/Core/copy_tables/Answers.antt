use Rattle.std.proofs.Common.{◌≡◌}
use Rattle.agent_core.proofs.switch_core.Core.copy_tables.Goals as goal

pub returns : goal.returns
returns g c = record { tables = rw (← c.self.view_is) c.copy_tables.ensures }
