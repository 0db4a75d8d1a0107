-- Tables and changes of each test.
use Rattle.std.specs.Prelude.{Bool, true, None, Some, List, [], ◌∷◌}
use Rattle.net_types.specs.declared.table.HopTarget.{HopTarget}
use Rattle.net_types.specs.declared.table.HopTarget.TheVariants.{Group as HopGroup, ToCpu as HopCpu}
use Rattle.net_types.specs.declared.table.HostKey.{HostKey}
use Rattle.net_types.specs.declared.table.HostRow.{HostRow}
use Rattle.net_types.specs.declared.table.RouteKey.{RouteKey}
use Rattle.net_types.specs.declared.table.RouteRow.TheVariants.{Group}
use Rattle.net_types.specs.declared.table.Tables.{Tables}
use Rattle.chip_core.specs.ChangeLists.{Change}
use Rattle.chip_core.specs.declared.changes.RowChanges.{RowChanges}
use Rattle.hw_undo_check.specs.declared.cases.Case.{Case}
use Rattle.hw_undo_check.specs.Samples.{host, trapped, route, station, at_port, pair}

-- a row that comes, and one that goes
abbrev pub added : {K V : Type 0} → K → V → Change K V
added key row = (key, None, Some row)

abbrev pub removed : {K V : Type 0} → K → V → Change K V
removed key row = (key, Some row, None)

abbrev pub live : List Bool
live = true ∷ true ∷ []

-- one host, in the first slot, that nothing leads to
abbrev pub one_host : Tables
one_host = record { l2 = []; host = (0, host 9, trapped) ∷ []; group = []; route = [] }

abbrev pub gone : Change HostKey HostRow
gone = removed (host 9) trapped

-- four rows are added to one table, and the host goes
abbrev pub l2_case : Case
l2_case = record {
  tables = one_host;
  changes = record { l2 = added (station 1) at_port ∷ added (station 2) at_port ∷ added (station 3) at_port ∷ added (station 4) at_port ∷ []; host = gone ∷ []; group = []; route = [] };
}

abbrev pub host_case : Case
host_case = record {
  tables = one_host;
  changes = record { l2 = []; host = added (host 1) trapped ∷ added (host 2) trapped ∷ added (host 3) trapped ∷ added (host 4) trapped ∷ gone ∷ []; group = []; route = [] };
}

abbrev pub first_host_case : Case
first_host_case = record {
  tables = record { l2 = []; host = []; group = []; route = [] };
  changes = record { l2 = []; host = added (host 1) trapped ∷ added (host 2) trapped ∷ added (host 3) trapped ∷ added (host 4) trapped ∷ []; group = []; route = [] };
}

abbrev pub group_case : Case
group_case = record {
  tables = record { l2 = []; host = (0, host 1, trapped) ∷ (1, host 2, trapped) ∷ (2, host 3, trapped) ∷ (3, host 4, trapped) ∷ (4, host 9, trapped) ∷ []; group = []; route = [] };
  changes = record { l2 = []; host = gone ∷ []; group = added (host 1 ∷ host 2 ∷ []) live ∷ added (host 1 ∷ host 3 ∷ []) live ∷ added (host 1 ∷ host 4 ∷ []) live ∷ added (host 2 ∷ host 3 ∷ []) live ∷ []; route = [] };
}

abbrev pub route_case : Case
route_case = record {
  tables = one_host;
  changes = record { l2 = []; host = gone ∷ []; group = []; route = added (route 1) HopCpu ∷ added (route 2) HopCpu ∷ added (route 3) HopCpu ∷ added (route 4) HopCpu ∷ [] };
}

-- hosts 1 and 2, their group, and a route to it; a host, its group and the route's way change
abbrev pub paired : Tables
paired = record { l2 = []; host = (0, host 1, trapped) ∷ (1, host 2, trapped) ∷ []; group = (0, pair 0 1) ∷ []; route = (route 1, Group 0) ∷ [] }

abbrev pub moved : Change RouteKey HopTarget
moved = (route 1, Some (HopGroup (host 1 ∷ host 2 ∷ [])), Some (HopGroup (host 2 ∷ host 3 ∷ [])))

abbrev pub repaired : List (Change RouteKey HopTarget) → RowChanges
repaired routes = record { l2 = []; host = removed (host 1) trapped ∷ added (host 3) trapped ∷ []; group = removed (host 1 ∷ host 2 ∷ []) live ∷ added (host 2 ∷ host 3 ∷ []) live ∷ []; route = routes }

-- with two routes more than there are
abbrev pub two_more_routes_case : Case
two_more_routes_case = record { tables = paired; changes = repaired (moved ∷ added (route 2) HopCpu ∷ added (route 3) HopCpu ∷ []) }

-- with one more
abbrev pub one_more_route_case : Case
one_more_route_case = record { tables = paired; changes = repaired (moved ∷ added (route 2) HopCpu ∷ []) }

-- with none
abbrev pub moved_route_case : Case
moved_route_case = record { tables = paired; changes = repaired (moved ∷ []) }
