use Rattle.chip_core.specs.Slots.{host_entries}
use Rattle.chip_core.proofs.Members.{route_host}
use Rattle.chip_core.proofs.shape.is_route_held.Goals as goal

pub returns-in-Host : goal.returns-in-Host
returns-in-Host c = route_host (host_entries c.args.hosts.now) c.args.groups.now c.args.row.now c.in-Host.slot c.is_host.result c.in-Host.is c.is_host.ensures
