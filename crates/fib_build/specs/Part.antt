-- What stands of the FIB of an edit.
use Rattle.std.specs.Prelude.{◌≡◌, ◌≢◌, ◌⊎◌, ℕ, Option}
use Rattle.std.specs.List.{Contains}
use Rattle.std.specs.Ordering.{nat_cmp}
use Rattle.keyed.specs.Keyed.{at}
use Rattle.net_types.specs.declared.table.RouteKey.{RouteKey}
use Rattle.net_types.specs.KeyOrder.{route_cmp}
use Rattle.node_map.specs.Change.{IsMadeFor}
use Rattle.node_map.specs.Paths.{ArePathsMade}
use Rattle.node_map.specs.TreeNode.{TreeNode}
use Rattle.state_keys.specs.PartKeys.{fib_number, IsFib}
use Rattle.switch_model.specs.declared.record.FibEntry.{FibEntry}
use Rattle.switch_state.specs.Edit.{EditView}
use Rattle.switch_state.specs.Plain.{fib_entries}
use Rattle.switch_state.specs.StateView.{StateView}

-- the key's entry in the FIB
abbrev pub entry_at : RouteKey → StateView → Option FibEntry
entry_at key s = at route_cmp key (fib_entries s)

-- nothing but the FIB is another one
abbrev pub HasOthers : EditView → EditView → Type 0
HasOthers old new = new ≡ record old { state = record old.state { fibs = new.state.fibs } }

-- a key with the same entry has its old node, with the version at which it was made and its birth
pub record KeepsNodes (old new : StateView) : Type 0 where
  pub kept : (k : RouteKey) → IsFib k → entry_at k old ≡ entry_at k new → at nat_cmp (fib_number k) new.fibs.entries ≡ at nat_cmp (fib_number k) old.fibs.entries

-- the number is that of a key that has another entry now
pub record HasOtherEntry (old new : StateView) (number : ℕ) : Type 0 where
  pub key : RouteKey
  pub number_is : fib_number key ≡ number
  pub differs : entry_at key old ≢ entry_at key new

-- each node of the FIB is one of the old ones, or was made at the edit's version on the path of a key that has another entry now
pub record FibPathsMade (old new : StateView) : Type 0 where
  pub fibs : ArePathsMade old.version (HasOtherEntry old new) old.fibs.nodes new.fibs.nodes

-- at most nodes on the key's path are made, and that only where its entry was another one
pub record IsWrite (key : RouteKey) (entry : Option FibEntry) (old new : StateView) : Type 0 where
  pub nodes : (n : TreeNode FibEntry) → Contains new.fibs.nodes n → Contains old.fibs.nodes n ⊎ (IsMadeFor old.version (fib_number key) n × (entry_at key old ≢ entry))
  pub kept : (k : RouteKey) → IsFib k → (k ≢ key) ⊎ (entry_at key old ≡ entry) → at nat_cmp (fib_number k) new.fibs.entries ≡ at nat_cmp (fib_number k) old.fibs.entries

-- the key has that entry now, and all others are as before
pub record IsEntrySet (key : RouteKey) (entry : Option FibEntry) (old new : StateView) : Type 0 where
  pub here : entry_at key new ≡ entry
  pub others : (k : RouteKey) → k ≢ key → entry_at k new ≡ entry_at k old
  pub write : IsWrite key entry old new
