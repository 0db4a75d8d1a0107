use Rattle.std.proofs.Common.{◌∙◌, sym}
use Rattle.chip_core.specs.SlotsLaws.{host_at-rows}
use Rattle.chip_core.proofs.sim.SimChip.host_at.Goals as goal

pub returns-in-Some : goal.returns-in-Some
returns-in-Some c = c.in-Some.ensures ∙ sym (host_at-rows c.args.slot c.args.self.now.hosts.rows)

pub returns-in-None : goal.returns-in-None
returns-in-None c = c.in-None.ensures ∙ sym (host_at-rows c.args.slot c.args.self.now.hosts.rows)
