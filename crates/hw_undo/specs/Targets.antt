-- Where a row of the route table leads.
use Rattle.std.specs.Prelude.{◌≡◌}
use Rattle.net_types.specs.declared.table.HopTarget.{HopTarget}
use Rattle.net_types.specs.declared.table.RouteRow.{RouteRow}
use Rattle.net_types.specs.declared.table.Tables.{Tables}
use Rattle.chip_core.specs.Chip.{target_of}
use Rattle.chip_core.specs.References.{IsRouteHeld}

-- the row leads to the target, which is there
pub record LeadsTo (raw : Tables) (row : RouteRow) (target : HopTarget) : Type 0 where
  pub is : target_of raw row ≡ target
  pub held : IsRouteHeld raw row
