-- Changes that are made of keys.
use Rattle.std.specs.Prelude.{Bool, not, Option, None, Some, List, ◌++◌, filter, map}
use Rattle.std.specs.Bool.{beq}
use Rattle.std.specs.Cmp.Lexicographic.{pointwise}
use Rattle.std.specs.Option.{option_eq}
use Rattle.std.specs.declared.cmp.Ordering.{Ordering}
use Rattle.keyed.specs.Keyed.{at}
use Rattle.keyed.specs.Sets.{set_of}
use Rattle.net_types.specs.Differ.{same_l2, same_host, same_target}
use Rattle.net_types.specs.KeyOrder.{l2_cmp, host_cmp, group_cmp, route_cmp}
use Rattle.net_types.specs.Rows.{Rows}
use Rattle.chip_core.specs.ChangeLists.{Change}
use Rattle.chip_core.specs.declared.changes.RowChanges.{RowChanges}
use Rattle.row_laws.specs.RowAt.{l2_row_at, host_row_at, group_row_at, route_row_at}
use Rattle.row_laws.specs.Touching.{Differences, l2_touched, host_touched, group_touched, route_touched}
use Rattle.switch_model.specs.PlainState.{PlainState}

-- a key with its row before and after
abbrev pub change_at : {K V : Type 0} → (K → Option V) → (K → Option V) → K → Change K V
change_at old new k = (k, old k, new k)

-- the changes at those of the keys where the rows differ, by a test of rows; each key once and ascending
abbrev pub changes_at : {K V : Type 0} → (K → K → Ordering) → (V → V → Bool) → (K → Option V) → (K → Option V) → List K → List (Change K V)
changes_at cmp same old new keys = map (change_at old new) (filter (λ k. not (option_eq same (old k) (new k))) (set_of cmp keys))

-- the changes from one list of rows to another, by the keys of both
abbrev pub plain_changes : {K V : Type 0} → (K → K → Ordering) → (V → V → Bool) → List (K × V) → List (K × V) → List (Change K V)
plain_changes cmp same old new = changes_at cmp same (λ k. at cmp k old) (λ k. at cmp k new) (map (λ e. e.0) old ++ map (λ e. e.0) new)

-- the changes of each table, by all its keys
abbrev pub plain_row_changes : Rows → Rows → RowChanges
plain_row_changes old new = record {
  l2 = plain_changes l2_cmp same_l2 old.l2 new.l2;
  host = plain_changes host_cmp same_host old.host new.host;
  group = plain_changes group_cmp (pointwise beq) old.group new.group;
  route = plain_changes route_cmp same_target old.route new.route;
}

-- the changes of each table, by the keys that the differences of two states can touch
abbrev pub touched_row_changes : PlainState → PlainState → Differences → RowChanges
touched_row_changes old new d = record {
  l2 = changes_at l2_cmp same_l2 (l2_row_at old) (l2_row_at new) (l2_touched new d);
  host = changes_at host_cmp same_host (host_row_at old) (host_row_at new) (host_touched old new d);
  group = changes_at group_cmp (pointwise beq) (group_row_at old) (group_row_at new) (group_touched old new d);
  route = changes_at route_cmp same_target (route_row_at old) (route_row_at new) (route_touched d);
}

-- an entry as an added row
abbrev pub added_row : {K V : Type 0} → K × V → Change K V
added_row e = (e.0, None, Some e.1)

-- each row of each table as an added one
abbrev pub added_rows : Rows → RowChanges
added_rows rows = record { l2 = map added_row rows.l2; host = map added_row rows.host; group = map added_row rows.group; route = map added_row rows.route }
