-- The tables of the chip in memory.
use Rattle.std.specs.Prelude.{ℕ, List, []}
use Rattle.std.specs.Coded.{Coded-set, coded_bool, ×_prop, Unit-prop, le_prop}
use Rattle.net_types.specs.declared.group.Member.{Member}
use Rattle.net_types.specs.declared.table.HostKey.{HostKey}
use Rattle.net_types.specs.declared.table.HostRow.{HostRow}
use Rattle.net_types.specs.declared.table.L2Key.{L2Key}
use Rattle.net_types.specs.declared.table.L2Row.{L2Row}
use Rattle.net_types.specs.declared.table.RouteKey.{RouteKey}
use Rattle.net_types.specs.declared.table.RouteRow.{RouteRow}
use Rattle.net_types.specs.declared.table.RouteRow.TheVariants.{Host, Group, ToCpu, Discard}
use Rattle.net_types.specs.declared.table.Tables.{Tables}
use Rattle.keyed.specs.Props.{Each-prop}
use Rattle.chip_core.specs.Chip.{AreLinked}
use Rattle.chip_core.specs.References.{IsRouteHeld}
use Rattle.chip_core.specs.Slots.{host_rows}

-- what stands in a chip's tables: rows by key, and hosts and groups as entries by slot
pub record Contents : Type 0 where
  pub l2 : List (L2Key × L2Row)
  pub host : List (ℕ × (HostKey × HostRow))
  pub group : List (ℕ × List Member)
  pub route : List (RouteKey × RouteRow)

-- the tables with these contents
abbrev pub tables_of : Contents → Tables
tables_of c = record { l2 = c.l2; host = host_rows c.host; group = c.group; route = c.route }

-- hosts and groups alone, to which routes may lead
abbrev pub targets : List (ℕ × (HostKey × HostRow)) → List (ℕ × List Member) → Contents
targets hosts groups = record { l2 = []; host = hosts; group = groups; route = [] }

IsRouteHeld-prop : (raw : Tables) (row : RouteRow) → IsProp (IsRouteHeld raw row)
IsRouteHeld-prop raw (Host slot) = Coded-set coded_bool _ _
IsRouteHeld-prop raw (Group slot) = Coded-set coded_bool _ _
IsRouteHeld-prop raw ToCpu = Unit-prop
IsRouteHeld-prop raw Discard = Unit-prop

pub AreLinked-prop : (raw : Tables) → IsProp (AreLinked raw)
AreLinked-prop raw = λ a b i. record {
  lengths = Each-prop _ _ raw.group (λ m. ×_prop le_prop le_prop) a.lengths b.lengths i;
  members = Each-prop _ _ raw.group (λ m x y j. λ k d lt. Coded-set coded_bool _ _ (x k d lt) (y k d lt) j) a.members b.members i;
  routes = Each-prop _ _ raw.route (IsRouteHeld-prop raw) a.routes b.routes i;
}
