-- How many writes changes of rows take.
use Rattle.std.specs.Prelude.{◌+◌, ℕ, Option, None, Some, List, [], ◌∷◌, length}
use Rattle.chip_core.specs.ChangeLists.{Change}
use Rattle.chip_core.specs.declared.changes.RowChanges.{RowChanges}

-- one where there is a row
abbrev pub rows_in : {V : Type 0} → Option V → ℕ
rows_in None = 0
rows_in (Some row) = 1

-- one where there is an old row
abbrev pub old_rows_in : {V : Type 0} → Option V → Option V → ℕ
old_rows_in old new = rows_in old

-- one where there is a new row
abbrev pub new_rows_in : {V : Type 0} → Option V → Option V → ℕ
new_rows_in old new = rows_in new

-- one where an old row goes and no new one comes
abbrev pub removals_in : {V : Type 0} → Option V → Option V → ℕ
removals_in old None = rows_in old
removals_in old (Some row) = 0

-- the sum over all changes
abbrev pub sum_over : {K V : Type 0} → (Option V → Option V → ℕ) → List (Change K V) → ℕ
sum_over count [] = 0
sum_over count (c ∷ cs) = count c.1 c.2 + sum_over count cs

-- the writes that delete rows: routes that differ, and rows of the other tables that have no new one
abbrev pub deletions : RowChanges → ℕ
deletions changes = sum_over removals_in changes.l2 + sum_over removals_in changes.host + sum_over removals_in changes.group + sum_over old_rows_in changes.route

-- the writes that add or set rows: one for each new row
abbrev pub additions : RowChanges → ℕ
additions changes = sum_over new_rows_in changes.l2 + sum_over new_rows_in changes.host + sum_over new_rows_in changes.group + sum_over new_rows_in changes.route

-- the writes that take the changes to a chip
abbrev pub writes_made : RowChanges → ℕ
writes_made changes = deletions changes + additions changes

-- how many rows differ
abbrev pub differing : RowChanges → ℕ
differing changes = length changes.l2 + length changes.host + length changes.group + length changes.route
