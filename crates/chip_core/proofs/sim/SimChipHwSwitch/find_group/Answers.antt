use Rattle.std.proofs.Common.{sym}
use Rattle.chip_core.proofs.RawLaws.{too_many}
use Rattle.chip_core.proofs.sim.SimChipHwSwitch.find_group.Goals as goal

pub returns-in-None : goal.returns-in-None
returns-in-None c = sym (too_many c.args.hosts.now c.args.self.now.groups.rows c.args.self.now.groups_slotted.ascends c.args.self.now.linked.lengths c.in-None.ensures)
