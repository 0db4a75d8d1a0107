-- Rows that change: a key with its old and its new row, each where there is one. They name hosts and groups by keys, and never by slots.
use Rattle.std.specs.Prelude.{◌≡◌, Bool, Option, None, Some, List, length, map}
use Rattle.std.specs.List.{AllByRecursion, IsDistinct}
use Rattle.std.specs.Ordering.{eq_by_cmp}
use Rattle.std.specs.declared.cmp.Ordering.{Ordering}
use Rattle.keyed.specs.Keyed.{Ascends}
use Rattle.net_types.specs.Groups.{IsGroupLength}
use Rattle.net_types.specs.KeyOrder.{host_cmp}
use Rattle.net_types.specs.declared.table.HostKey.{HostKey}

-- a key, its old row and its new one
abbrev pub Change : Type 0 → Type 0 → Type 0
Change K V = K × Option V × Option V

-- each change under its key
abbrev pub by_key : {K V : Type 0} → List (Change K V) → List (K × (Option V × Option V))
by_key changes = map (λ c. (c.0, (c.1, c.2))) changes

-- keys ascend, so that none is listed twice
abbrev pub IsAscending : {K V : Type 0} → (K → K → Ordering) → List (Change K V) → Type 0
IsAscending cmp changes = Ascends cmp (by_key changes)

-- there are as many live marks as hosts, where there is a row
abbrev pub HasMarks : List HostKey → Option (List Bool) → Type 0
HasMarks keys None = Unit {0}
HasMarks keys (Some marks) = length marks ≡ length keys

-- a group's key is 2 to 64 hosts, none of them twice, and its rows mark each of them
pub record IsGroupChange (change : Change (List HostKey) (List Bool)) : Type 0 where
  pub length : IsGroupLength (length change.0)
  pub once : IsDistinct (eq_by_cmp host_cmp) change.0
  pub old : HasMarks change.0 change.1
  pub new : HasMarks change.0 change.2

-- each change is of a group
abbrev pub AreGroupChanges : List (Change (List HostKey) (List Bool)) → Type 0
AreGroupChanges changes = AllByRecursion IsGroupChange changes
