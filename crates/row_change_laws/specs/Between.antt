-- The changes from one list of rows to another.
use Rattle.std.specs.Prelude.{◌≡◌, ◌≢◌, List, [], map}
use Rattle.std.specs.List.{AllByRecursion, Contains}
use Rattle.std.specs.declared.cmp.Ordering.{Ordering}
use Rattle.keyed.specs.Keyed.{at}
use Rattle.net_types.specs.KeyOrder.{l2_cmp, host_cmp, group_cmp, route_cmp}
use Rattle.net_types.specs.Rows.{Rows}
use Rattle.chip_core.specs.ChangeLists.{Change, IsAscending}
use Rattle.chip_core.specs.declared.changes.RowChanges.{RowChanges}
use Rattle.row_laws.specs.Touching.{DifferOnlyAt}

-- the listed keys ascend, each with its row in both lists, which aren't the same; and the two lists differ at no other key
pub record AreChangesBetween {K V : Type 0} (cmp : K → K → Ordering) (changes : List (Change K V)) (old new : List (K × V)) : Type 0 where
  pub ascending : IsAscending cmp changes
  pub each : (c : Change K V) → Contains changes c → (at cmp c.0 old ≡ c.1) × (at cmp c.0 new ≡ c.2) × (c.1 ≢ c.2)
  pub rest : DifferOnlyAt (map (λ c. c.0) changes) (λ k. at cmp k old) (λ k. at cmp k new)

-- the changes of each table are those between its two lists of rows
pub record AreRowChangesBetween (changes : RowChanges) (old new : Rows) : Type 0 where
  pub l2 : AreChangesBetween l2_cmp changes.l2 old.l2 new.l2
  pub host : AreChangesBetween host_cmp changes.host old.host new.host
  pub group : AreChangesBetween group_cmp changes.group old.group new.group
  pub route : AreChangesBetween route_cmp changes.route old.route new.route

-- tables without rows
abbrev pub no_rows : Rows
no_rows = record { l2 = []; host = []; group = []; route = [] }

-- each change is a real one: its new row isn't its old one
abbrev pub AreReal : {K V : Type 0} → List (Change K V) → Type 0
AreReal changes = AllByRecursion (λ c. c.1 ≢ c.2) changes

-- the changes of each table are real ones
pub record AreRealChanges (changes : RowChanges) : Type 0 where
  pub l2 : AreReal changes.l2
  pub host : AreReal changes.host
  pub group : AreReal changes.group
  pub route : AreReal changes.route
