-- Which rows a change of the state can touch. Whatever isn't listed stands alike before and after, so the uses of a port and the
-- keys of a hop are asked of the new state alone.
use Rattle.std.specs.Prelude.{◌≡◌, ℕ, ◌==◌, Option, List, ◌++◌, map, filter, flat_map, option_map}
use Rattle.std.specs.List.{Contains}
use Rattle.net_types.specs.declared.table.HostKey.{HostKey}
use Rattle.net_types.specs.declared.table.L2Key.{L2Key}
use Rattle.net_types.specs.declared.table.RouteKey.{RouteKey}
use Rattle.switch_model.specs.declared.key.NeighborKey.{NeighborKey}
use Rattle.switch_model.specs.Facts.{is_behind}
use Rattle.switch_model.specs.PlainState.{PlainState, port_at, intf_at, mac_at, neighbor_at}
use Rattle.switch_model.specs.Rows.{is_up, host_of_neighbor, hosts, group_of_hosts}
use Rattle.row_laws.specs.RowAt.{fib_at, hosts_at, fibs_of}

-- two look-ups give the same under each key that isn't listed; the list may have more keys than those that differ
pub record DifferOnlyAt {K : Type 0} {V : Type 0} (keys : List K) (old new : K → V) : Type 0 where
  pub same : (k : K) → (Contains keys k → ⊥) → old k ≡ new k

-- the VRF of an interface, where the interface is there
abbrev pub vrf_at : PlainState → ℕ → Option ℕ
vrf_at m intf = option_map (λ i. i.vrf) (intf_at m intf)

-- keys of the entries that differ between two states, of each part that rows rest on, and of the FIB
pub record Differences : Type 0 where
  pub ports : List ℕ
  pub intfs : List ℕ
  pub macs : List L2Key
  pub neighbors : List NeighborKey
  pub fibs : List RouteKey

-- all that differs for rows is listed: of a port whether it is up, of an interface its VRF, and of the others the whole entry
pub record AreDifferences (d : Differences) (old new : PlainState) : Type 0 where
  pub ports : DifferOnlyAt d.ports (λ port. is_up (port_at old port)) (λ port. is_up (port_at new port))
  pub intfs : DifferOnlyAt d.intfs (vrf_at old) (vrf_at new)
  pub macs : DifferOnlyAt d.macs (mac_at old) (mac_at new)
  pub neighbors : DifferOnlyAt d.neighbors (neighbor_at old) (neighbor_at new)
  pub fibs : DifferOnlyAt d.fibs (fib_at old) (fib_at new)

-- the keys of the stations behind a port
abbrev pub stations_behind : PlainState → ℕ → List L2Key
stations_behind m port = map (λ e. e.0) (filter (λ e. e.1.port == port) m.macs)

-- the keys of the reachable neighbours behind a port
abbrev pub neighbors_behind : PlainState → ℕ → List NeighborKey
neighbors_behind m port = map (λ e. e.0) (filter (λ e. is_behind port e.1) m.neighbors)

-- the hosts on an interface that may have a row
abbrev pub hosts_on : PlainState → ℕ → List HostKey
hosts_on m intf = filter (λ host. host.intf == intf) (hosts m)

-- the groups that the host is in, one for each FIB key that has such a group
abbrev pub groups_with : PlainState → HostKey → List (List HostKey)
groups_with m host = flat_map (λ key. group_of_hosts (hosts_at m key)) (fibs_of m host)

-- the hosts whose neighbour differs, or stands behind a port that differs
abbrev pub hosts_seen : PlainState → Differences → List HostKey
hosts_seen new d = map host_of_neighbor (d.neighbors ++ flat_map (neighbors_behind new) d.ports)

-- the l2 rows that may differ: those of stations that differ, and of stations behind a port that differs
abbrev pub l2_touched : PlainState → Differences → List L2Key
l2_touched new d = d.macs ++ flat_map (stations_behind new) d.ports

-- the host rows that may differ: of hosts whose neighbour or its port differs, of hosts that an entry that differs forwards to or did, and of hosts on an interface that differs
abbrev pub host_touched : PlainState → PlainState → Differences → List HostKey
host_touched old new d =
    hosts_seen new d
    ++ flat_map (λ key. hosts_at old key ++ hosts_at new key) d.fibs
    ++ flat_map (hosts_on new) d.intfs

-- the group rows that may differ: of groups that an entry that differs forwards to or did, and of groups with a host whose neighbour or its port differs
abbrev pub group_touched : PlainState → PlainState → Differences → List (List HostKey)
group_touched old new d =
    flat_map (λ key. group_of_hosts (hosts_at old key) ++ group_of_hosts (hosts_at new key)) d.fibs
    ++ flat_map (groups_with new) (hosts_seen new d)

-- the route rows that may differ: those of entries that differ
abbrev pub route_touched : Differences → List RouteKey
route_touched d = d.fibs
