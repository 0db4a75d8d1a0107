-- The rows between the phases of a commit.
use Rattle.std.specs.Prelude.{◌≡◌, Option, None, Some, List, [], ◌∷◌}
use Rattle.std.specs.declared.cmp.Ordering.{Ordering}
use Rattle.keyed.specs.Keyed.{at, without}
use Rattle.net_types.specs.KeyOrder.{l2_cmp, host_cmp, group_cmp, route_cmp}
use Rattle.net_types.specs.Rows.{Rows}
use Rattle.net_types.specs.declared.table.HopTarget.{HopTarget}
use Rattle.net_types.specs.declared.table.RouteKey.{RouteKey}
use Rattle.chip_core.specs.ChangeLists.{Change, IsAscending}
use Rattle.chip_core.specs.Changes.{removes, adds}
use Rattle.chip_core.specs.declared.changes.RowChanges.{RowChanges}

-- the routes among the rows
abbrev pub routes_of : Rows → List (RouteKey × HopTarget)
routes_of rows = rows.route

-- the rows with other routes
abbrev pub with_routes : List (RouteKey × HopTarget) → Rows → Rows
with_routes routes rows = record rows { route = routes }

-- the rows without those of the listed keys
abbrev pub cuts : {K V : Type 0} → (K → K → Ordering) → List (Change K V) → List (K × V) → List (K × V)
cuts cmp [] rows = rows
cuts cmp (c ∷ cs) rows = cuts cmp cs (without cmp c.0 rows)

-- the rows once the routes that differ, and the rows that have no new one, are deleted
abbrev pub remaining : RowChanges → Rows → Rows
remaining changes rows = record {
  l2 = removes l2_cmp changes.l2 rows.l2;
  host = removes host_cmp changes.host rows.host;
  group = removes group_cmp changes.group rows.group;
  route = cuts route_cmp changes.route rows.route;
}

-- the rows with each new row under its key
abbrev pub with_new : RowChanges → Rows → Rows
with_new changes rows = record {
  l2 = adds l2_cmp changes.l2 rows.l2;
  host = adds host_cmp changes.host rows.host;
  group = adds group_cmp changes.group rows.group;
  route = adds route_cmp changes.route rows.route;
}

-- the old row, where a new one comes in its place
abbrev pub old_if : {V : Type 0} → Option V → Option V → Option V
old_if old None = None
old_if old (Some row) = old

-- each listed old row that a new one replaces is there, and of the other listed keys there is none
abbrev pub AreReady : {K V : Type 0} → (K → K → Ordering) → List (Change K V) → List (K × V) → Type 0
AreReady cmp [] rows = Unit {0}
AreReady cmp (c ∷ cs) rows = (at cmp c.0 rows ≡ old_if c.1 c.2) × AreReady cmp cs rows

-- none of the listed keys is there
abbrev pub AreGone : {K V : Type 0} → (K → K → Ordering) → List (Change K V) → List (K × V) → Type 0
AreGone cmp [] rows = Unit {0}
AreGone cmp (c ∷ cs) rows = (at cmp c.0 rows ≡ None) × AreGone cmp cs rows

-- in each table the listed keys are ready for their new rows
pub record AreReadyRows (changes : RowChanges) (rows : Rows) : Type 0 where
  pub l2 : AreReady l2_cmp changes.l2 rows.l2
  pub host : AreReady host_cmp changes.host rows.host
  pub group : AreReady group_cmp changes.group rows.group
  pub route : AreGone route_cmp changes.route rows.route

-- in each table the keys ascend
pub record AreAscending (changes : RowChanges) : Type 0 where
  pub l2 : IsAscending l2_cmp changes.l2
  pub host : IsAscending host_cmp changes.host
  pub group : IsAscending group_cmp changes.group
  pub route : IsAscending route_cmp changes.route
