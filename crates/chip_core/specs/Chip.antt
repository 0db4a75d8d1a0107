-- The chip's tables: what they mean, and the rules that they keep.
use Rattle.std.specs.Prelude.{◌≤◌, ◌<◌, ℕ, Bool, Option, List, [], length, map, nat_eq}
use Rattle.std.specs.List.{filter_map, IsDistinct}
use Rattle.std.specs.Option.{option_map, option_map_or}
use Rattle.std.specs.Ordering.{nat_cmp}
use Rattle.keyed.specs.Keyed.{at, Ascends, Each, with_values}
use Rattle.keyed.specs.Named.{AreDistinct, gathered}
use Rattle.net_types.specs.Groups.{IsGroupLength, group_key_cmp, group_key_of}
use Rattle.net_types.specs.KeyOrder.{l2_cmp, host_cmp, group_cmp, route_cmp}
use Rattle.net_types.specs.Rows.{Rows}
use Rattle.net_types.specs.declared.group.Member.{Member}
use Rattle.net_types.specs.declared.table.Caps.{Caps}
use Rattle.net_types.specs.declared.table.HopTarget.{HopTarget}
use Rattle.net_types.specs.declared.table.HopTarget.TheVariants.{Host as HopHost, Group as HopGroup, ToCpu as HopCpu, Discard as HopDiscard}
use Rattle.net_types.specs.declared.table.HostKey.{HostKey}
use Rattle.net_types.specs.declared.table.RouteRow.{RouteRow}
use Rattle.net_types.specs.declared.table.RouteRow.TheVariants.{Host, Group, ToCpu, Discard}
use Rattle.net_types.specs.declared.table.Tables.{Tables}
use Rattle.chip_core.specs.References.{IsHost, IsGroup, AreMembersHeld, EachRoute, IsRouteHeld}
use Rattle.chip_core.specs.Slots.{Hosts, host_entries, host_at, hosts_of}

-- the tables without rows
abbrev pub empty : Tables
empty = record { l2 = []; host = []; group = []; route = [] }

-- the key of the host in the slot
abbrev pub key_in : Hosts → ℕ → Option HostKey
key_in hosts slot = option_map (λ h. h.0) (host_at slot hosts)

-- a group's key in terms of hosts: the keys of those in its members' slots, in order
abbrev pub keys_of : Hosts → List Member → List HostKey
keys_of hosts members = filter_map (λ m. key_in hosts m.host) members

-- whether each member of a group is live, in order
abbrev pub marks_of : List Member → List Bool
marks_of members = map (λ m. m.live) members

-- what a route leads to, by keys; Discard where nothing stands in the slot, which a chip's rules exclude
abbrev pub target_of : Tables → RouteRow → HopTarget
target_of raw (Host slot) = option_map_or HopHost (key_in raw.host slot) HopDiscard
target_of raw (Group slot) = option_map_or (λ members. HopGroup (keys_of raw.host members)) (at nat_cmp slot raw.group) HopDiscard
target_of raw ToCpu = HopCpu
target_of raw Discard = HopDiscard

-- the rows that the tables hold, with keys in the place of slots
abbrev pub view_of : Tables → Rows
view_of raw = record {
  l2 = raw.l2;
  host = gathered host_cmp (λ h. h) (host_entries raw.host);
  group = gathered group_cmp (λ members. (keys_of raw.host members, marks_of members)) raw.group;
  route = with_values (target_of raw) raw.route;
}

-- rows ascend by key or by slot, so that none stands twice, and no host and no group stands in two slots
pub record AreKeysDistinct (raw : Tables) : Type 0 where
  pub l2 : Ascends l2_cmp raw.l2
  pub host : Ascends nat_cmp (host_entries raw.host)
  pub group : Ascends nat_cmp raw.group
  pub route : Ascends route_cmp raw.route
  pub host_keys : AreDistinct host_cmp (λ h. h.0) (host_entries raw.host)
  pub group_keys : AreDistinct group_key_cmp group_key_of raw.group

-- a group has 2 to 64 members, and the hosts and groups that members and routes lead to are there
pub record AreLinked (raw : Tables) : Type 0 where
  pub lengths : Each nat_cmp (λ members. IsGroupLength (length members)) raw.group
  pub members : Each nat_cmp (AreMembersHeld raw) raw.group
  pub routes : EachRoute raw (IsRouteHeld raw)

-- the rules of a chip's tables, capacities left aside
pub record IsConsistent (raw : Tables) : Type 0 where
  pub keys : AreKeysDistinct raw
  pub links : AreLinked raw

-- no table has more rows than it has room for, and each slot that is taken is below the capacity
pub record IsWithin (caps : Caps) (raw : Tables) : Type 0 where
  pub l2 : length raw.l2 ≤ caps.l2
  pub host : length raw.host ≤ caps.host
  pub group : length raw.group ≤ caps.group
  pub route : length raw.route ≤ caps.route
  pub host_slots : (slot : ℕ) → IsHost raw slot → slot < caps.host
  pub group_slots : (slot : ℕ) → IsGroup raw slot → slot < caps.group

-- the rules of a chip's tables
pub record IsChip (caps : Caps) (raw : Tables) : Type 0 where
  pub rows : IsConsistent raw
  pub within : IsWithin caps raw

-- tables that a chip may be made of: they keep its rules, and no group names a host twice
pub record IsImage (caps : Caps) (tables : Tables) : Type 0 where
  pub chip : IsChip caps tables
  pub once : Each nat_cmp (λ members. IsDistinct nat_eq (hosts_of members)) tables.group

-- what can be told of tables row by row: all that IsImage says, save that no host and no group stands in two slots
pub record AreShaped (caps : Caps) (tables : Tables) : Type 0 where
  pub l2 : Ascends l2_cmp tables.l2
  pub host : Ascends nat_cmp (host_entries tables.host)
  pub group : Ascends nat_cmp tables.group
  pub route : Ascends route_cmp tables.route
  pub links : AreLinked tables
  pub within : IsWithin caps tables
  pub once : Each nat_cmp (λ members. IsDistinct nat_eq (hosts_of members)) tables.group
