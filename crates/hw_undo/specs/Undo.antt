-- Writes to a chip, and how each is undone.
use Rattle.std.specs.Prelude.{◌≡◌, ◌<◌, ℕ, Bool, All, Option, None, Some, IsSome, List, [], ◌∷◌, length}
use Rattle.std.specs.List.{slice_get}
use Rattle.std.specs.Option.{option_map, option_map_or, unwrap_or}
use Rattle.std.specs.Ordering.{nat_cmp}
use Rattle.keyed.specs.Keyed.{at, put, without}
use Rattle.net_types.specs.Groups.{IsGroupLength, group_key_of}
use Rattle.net_types.specs.KeyOrder.{host_cmp, l2_cmp, route_cmp}
use Rattle.net_types.specs.declared.group.Member.{Member}
use Rattle.net_types.specs.declared.table.Caps.{Caps}
use Rattle.net_types.specs.declared.table.HostKey.{HostKey}
use Rattle.net_types.specs.declared.table.Tables.{Tables}
use Rattle.chip_core.specs.ChangeLists.{Change}
use Rattle.chip_core.specs.Chip.{view_of}
use Rattle.chip_core.specs.ChipLaws.{IsHostRoom, IsGroupRoom}
use Rattle.chip_core.specs.References.{IsHost, IsGroup, IsRouteHeld, IsUnusedHost, IsUnusedGroup}
use Rattle.chip_core.specs.Slots.{Hosts, put_host, set_host, slot_of, without_host}
use Rattle.hw_undo.specs.declared.write.Write.{Write}
use Rattle.hw_undo.specs.declared.write.Write.TheVariants.{AddedL2, SetL2, RemovedL2, AddedHost, SetHost, RemovedHost, AddedGroup, SetGroup, RemovedGroup, AddedRoute, RemovedRoute}

-- changes of the group table
abbrev pub GroupChanges : Type 0
GroupChanges = List (Change (List HostKey) (List Bool))

-- the members of a group: the slots of the hosts with these keys, each with its mark
abbrev pub members_with : Hosts → List HostKey → List Bool → List Member
members_with hosts [] marks = []
members_with hosts (k ∷ ks) [] = []
members_with hosts (k ∷ ks) (m ∷ ms) = (record { host = unwrap_or (slot_of k hosts) 0; live = m }) ∷ members_with hosts ks ms

-- the old row of the group whose change is listed at that place
abbrev pub old_members : GroupChanges → ℕ → Hosts → List Member
old_members groups place hosts = option_map_or (λ c. members_with hosts c.0 (unwrap_or c.1 [])) (slice_get groups place) []

-- the tables after the write is undone: what was added goes, and what was set or removed is put back in its slot
abbrev pub undone : GroupChanges → Write → Tables → Tables
undone groups (AddedL2 key) raw = record raw { l2 = without l2_cmp key raw.l2 }
undone groups (SetL2 key row) raw = record raw { l2 = put l2_cmp key row raw.l2 }
undone groups (RemovedL2 key row) raw = record raw { l2 = put l2_cmp key row raw.l2 }
undone groups (AddedHost slot) raw = record raw { host = without_host slot raw.host }
undone groups (SetHost slot row) raw = record raw { host = set_host slot row raw.host }
undone groups (RemovedHost slot key row) raw = record raw { host = put_host slot key row raw.host }
undone groups (AddedGroup slot) raw = record raw { group = without nat_cmp slot raw.group }
undone groups (SetGroup slot place) raw = record raw { group = put nat_cmp slot (old_members groups place raw.host) raw.group }
undone groups (RemovedGroup slot place) raw = record raw { group = put nat_cmp slot (old_members groups place raw.host) raw.group }
undone groups (AddedRoute key) raw = record raw { route = without route_cmp key raw.route }
undone groups (RemovedRoute key row) raw = record raw { route = put route_cmp key row raw.route }

-- the tables after all the writes are undone, from the last to the first
abbrev pub rolled_back : GroupChanges → List Write → Tables → Tables
rolled_back groups [] raw = raw
rolled_back groups (w ∷ ws) raw = undone groups w (rolled_back groups ws raw)

-- a group is listed at that place, with this old row
pub record IsListed (groups : GroupChanges) (place : ℕ) (keys : List HostKey) (old : Option (List Bool)) : Type 0 where
  pub new : Option (List Bool)
  pub is : slice_get groups place ≡ Some (keys, old, new)

-- a group is listed at that place with an old row, and its hosts are there
pub record HasOldMembers (groups : GroupChanges) (place : ℕ) (raw : Tables) : Type 0 where
  pub keys : List HostKey
  pub marks : List Bool
  pub listed : IsListed groups place keys (Some marks)
  pub long : IsGroupLength (length keys)
  pub marked : length marks ≡ length keys
  pub known : All (λ key. IsSome (at host_cmp key (view_of raw).host)) keys

-- a chip takes the call that undoes the write
abbrev pub IsUndoable : GroupChanges → Caps → Write → Tables → Type 0
IsUndoable groups caps (AddedL2 key) raw = IsSome (at l2_cmp key raw.l2)
IsUndoable groups caps (SetL2 key row) raw = IsSome (at l2_cmp key raw.l2)
IsUndoable groups caps (RemovedL2 key row) raw = (at l2_cmp key raw.l2 ≡ None) × (length raw.l2 < caps.l2)
IsUndoable groups caps (AddedHost slot) raw = IsHost raw slot × IsUnusedHost raw slot
IsUndoable groups caps (SetHost slot row) raw = IsHost raw slot
IsUndoable groups caps (RemovedHost slot key row) raw = IsHostRoom caps raw slot key
IsUndoable groups caps (AddedGroup slot) raw = IsGroup raw slot × IsUnusedGroup raw slot
IsUndoable groups caps (SetGroup slot place) raw = HasOldMembers groups place raw × (option_map group_key_of (at nat_cmp slot raw.group) ≡ Some (group_key_of (old_members groups place raw.host)))
IsUndoable groups caps (RemovedGroup slot place) raw = HasOldMembers groups place raw × IsGroupRoom caps raw slot (old_members groups place raw.host)
IsUndoable groups caps (AddedRoute key) raw = IsSome (at route_cmp key raw.route)
IsUndoable groups caps (RemovedRoute key row) raw = (at route_cmp key raw.route ≡ None) × IsRouteHeld raw row × (length raw.route < caps.route)

-- and so for each write in its turn, from the last to the first
abbrev pub AreUndoable : GroupChanges → Caps → List Write → Tables → Type 0
AreUndoable groups caps [] raw = Unit {0}
AreUndoable groups caps (w ∷ ws) raw = IsUndoable groups caps w (rolled_back groups ws raw) × AreUndoable groups caps ws raw
