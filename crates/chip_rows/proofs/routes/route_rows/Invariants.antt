use Rattle.std.proofs.Common.{◌≡◌, take}
use Rattle.chip_rows.specs.BySlot.{route_rows}
use Rattle.chip_rows.proofs.routes.route_rows.Given as goal

abbrev pub invariant-loop-route : goal.invariant-loop-route
invariant-loop-route l = l.rows.items ≡ route_rows l.hosts l.groups (take l.route-index l.routes)
