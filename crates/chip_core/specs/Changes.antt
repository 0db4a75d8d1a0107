-- What changes of rows make of the rows that they start from.
use Rattle.std.specs.Prelude.{◌≡◌, ◌+◌, ◌*◌, ℕ, Option, None, Some, List, [], ◌∷◌, length}
use Rattle.std.specs.declared.cmp.Ordering.{Ordering}
use Rattle.keyed.specs.Keyed.{at, put, without}
use Rattle.net_types.specs.KeyOrder.{l2_cmp, host_cmp, group_cmp, route_cmp}
use Rattle.net_types.specs.Rows.{Rows}
use Rattle.chip_core.specs.ChangeLists.{Change}
use Rattle.chip_core.specs.declared.changes.RowChanges.{RowChanges}

-- the rows without the one of a key that has no new row
abbrev pub remove_one : {K V : Type 0} → (K → K → Ordering) → K → Option V → List (K × V) → List (K × V)
remove_one cmp k None rows = without cmp k rows
remove_one cmp k (Some v) rows = rows

-- the rows without those that have no new row
abbrev pub removes : {K V : Type 0} → (K → K → Ordering) → List (Change K V) → List (K × V) → List (K × V)
removes cmp [] rows = rows
removes cmp (c ∷ cs) rows = removes cmp cs (remove_one cmp c.0 c.2 rows)

-- the rows with the new row of a key, where it has one
abbrev pub add_one : {K V : Type 0} → (K → K → Ordering) → K → Option V → List (K × V) → List (K × V)
add_one cmp k None rows = rows
add_one cmp k (Some v) rows = put cmp k v rows

-- the rows with each new row under its key
abbrev pub adds : {K V : Type 0} → (K → K → Ordering) → List (Change K V) → List (K × V) → List (K × V)
adds cmp [] rows = rows
adds cmp (c ∷ cs) rows = adds cmp cs (add_one cmp c.0 c.2 rows)

-- the rows with the new row of each listed key in the place of its old one
abbrev pub changed : {K V : Type 0} → (K → K → Ordering) → List (Change K V) → List (K × V) → List (K × V)
changed cmp changes rows = adds cmp changes (removes cmp changes rows)

-- each listed old row is the one that is there
abbrev pub AreOld : {K V : Type 0} → (K → K → Ordering) → List (Change K V) → List (K × V) → Type 0
AreOld cmp [] rows = Unit {0}
AreOld cmp (c ∷ cs) rows = (at cmp c.0 rows ≡ c.1) × AreOld cmp cs rows

-- the rows that the changes make of these
abbrev pub changed_rows : RowChanges → Rows → Rows
changed_rows changes rows = record {
  l2 = changed l2_cmp changes.l2 rows.l2;
  host = changed host_cmp changes.host rows.host;
  group = changed group_cmp changes.group rows.group;
  route = changed route_cmp changes.route rows.route;
}

-- in each table the listed old rows are those that are there
pub record AreOldRows (changes : RowChanges) (rows : Rows) : Type 0 where
  pub l2 : AreOld l2_cmp changes.l2 rows.l2
  pub host : AreOld host_cmp changes.host rows.host
  pub group : AreOld group_cmp changes.group rows.group
  pub route : AreOld route_cmp changes.route rows.route

-- the most writes that the changes take: two for a route, and one for each other row
abbrev pub writes_of : RowChanges → ℕ
writes_of changes = length changes.l2 + length changes.host + length changes.group + 2 * length changes.route
