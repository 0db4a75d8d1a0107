use Rattle.std.proofs.Common.{take}
use Rattle.chip_core.specs.Slots.{host_entries}
use Rattle.chip_core.specs.Tables.{RoutesHeld}
use Rattle.chip_core.proofs.shape.are_routes_held.Given as goal

abbrev pub invariant-loop-route : goal.invariant-loop-route
invariant-loop-route l = RoutesHeld (host_entries l.hosts) l.groups (take l.route-index l.routes)
