use Rattle.std.proofs.Common.{◌∙◌, sym}
use Rattle.chip_core.proofs.RawLaws.{found_as}
use Rattle.chip_core.proofs.sim.SimChipHwSwitch.find_host.Goals as goal

pub returns : goal.returns
returns c = c.find.ensures ∙ sym (found_as c.args.key.now c.args.self.now.hosts.rows)
