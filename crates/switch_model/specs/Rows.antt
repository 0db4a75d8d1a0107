-- The chip rows that a state gives.
use Rattle.std.specs.Prelude.{nat_le, Bool, false, Option, None, Some, List, [], ◌∷◌, ◌++◌, length, map, option_map, filter_map, flat_map, if◌then◌else◌}
use Rattle.keyed.specs.Keyed.{with_values}
use Rattle.keyed.specs.Sets.{entries_at}
use Rattle.net_types.specs.declared.hop.Hop.{Hop}
use Rattle.net_types.specs.declared.table.HopTarget.{HopTarget}
use Rattle.net_types.specs.declared.table.HopTarget.TheVariants as target
use Rattle.net_types.specs.declared.table.HostAct.{HostAct}
use Rattle.net_types.specs.declared.table.HostAct.TheVariants as act
use Rattle.net_types.specs.declared.table.HostKey.{HostKey}
use Rattle.net_types.specs.declared.table.HostRow.{HostRow}
use Rattle.net_types.specs.declared.table.L2Row.{L2Row}
use Rattle.net_types.specs.KeyOrder.{host_cmp, group_cmp}
use Rattle.net_types.specs.Rows.{Rows}
use Rattle.switch_model.specs.declared.key.NeighborKey.{NeighborKey}
use Rattle.switch_model.specs.declared.record.FibEntry.{FibEntry}
use Rattle.switch_model.specs.declared.record.FibEntry.TheVariants.{Connected, Forward, ToCpu, Discard}
use Rattle.switch_model.specs.declared.record.MacRec.{MacRec}
use Rattle.switch_model.specs.declared.record.NeighborRec.{NeighborRec}
use Rattle.switch_model.specs.declared.record.NeighborRec.TheVariants.{Reachable}
use Rattle.switch_model.specs.declared.record.PortRec.{PortRec}
use Rattle.switch_model.specs.Fib.{fibs}
use Rattle.switch_model.specs.PlainState.{PlainState, rib, port_at, intf_at, neighbor_at}

-- a port that isn't there counts as down
abbrev pub is_up : Option PortRec → Bool
is_up None = false
is_up (Some port) = port.up

-- where frames to a station go, and whether that port is up
abbrev pub l2_row : PlainState → MacRec → L2Row
l2_row m mac = record { port = mac.port; up = is_up (port_at m mac.port) }

-- the neighbour that a host is
abbrev pub neighbor_of_host : HostKey → NeighborKey
neighbor_of_host host = record { intf = host.intf; ip = host.ip }

-- a host is live where its neighbour is reachable and that neighbour's port is up
abbrev pub is_live_neighbor : PlainState → Option NeighborRec → Bool
is_live_neighbor m (Some (Reachable mac port)) = is_up (port_at m port)
is_live_neighbor m _ = false

-- whether a host is live
abbrev pub live : PlainState → HostKey → Bool
live m host = is_live_neighbor m (neighbor_at m (neighbor_of_host host))

-- packets go to a reachable neighbour by its port, and to the CPU where there is no such one
abbrev pub host_act : PlainState → Option NeighborRec → HostAct
host_act m (Some (Reachable mac port)) = act.Forward mac port (is_up (port_at m port))
host_act m _ = act.Trap

-- a host has the VRF of its interface, and no row where that isn't there
abbrev pub host_row : PlainState → HostKey → Option HostRow
host_row m host = option_map (λ intf. record { vrf = intf.vrf; act = host_act m (neighbor_at m (neighbor_of_host host)) }) (intf_at m host.intf)

-- the host that a neighbour is
abbrev pub host_of_neighbor : NeighborKey → HostKey
host_of_neighbor neighbor = record { ip = neighbor.ip; intf = neighbor.intf }

-- the host that a hop with an interface is
abbrev pub host_of_hop : Hop → Option HostKey
host_of_hop hop = option_map (λ intf. record { ip = hop.ip; intf = intf }) hop.intf

-- the hosts that an entry forwards to
abbrev pub forward_hosts : FibEntry → List HostKey
forward_hosts (Forward hops) = filter_map host_of_hop hops
forward_hosts _ = []

-- the hosts that may have a row: the neighbours, and those that entries forward to
abbrev pub hosts : PlainState → List HostKey
hosts m = map (λ e. host_of_neighbor e.0) m.neighbors ++ flat_map (λ e. forward_hosts e.1) (fibs (rib m))

-- two or more hosts are a group, fewer are none
abbrev pub group_of_hosts : List HostKey → List (List HostKey)
group_of_hosts members = if nat_le 2 (length members) then members ∷ [] else []

-- the groups that entries forward to, perhaps some more than once
abbrev pub groups : PlainState → List (List HostKey)
groups m = flat_map (λ e. group_of_hosts (forward_hosts e.1)) (fibs (rib m))

-- one host by itself, and more of them as their group
abbrev pub target_of_hosts : List HostKey → HopTarget
target_of_hosts (host ∷ []) = target.Host host
target_of_hosts members = target.Group members

-- a connected prefix goes to the CPU, which looks for the neighbour
abbrev pub target_of_entry : FibEntry → HopTarget
target_of_entry (Connected intf) = target.ToCpu
target_of_entry (Forward hops) = target_of_hosts (filter_map host_of_hop hops)
target_of_entry ToCpu = target.ToCpu
target_of_entry Discard = target.Discard

-- each table by its keys: MAC entries, hosts, groups of hosts with their live marks, and FIB entries
abbrev pub rows : PlainState → Rows
rows m = record {
  l2 = with_values (l2_row m) m.macs;
  host = entries_at host_cmp (host_row m) (hosts m);
  group = entries_at group_cmp (λ members. Some (map (live m) members)) (groups m);
  route = with_values target_of_entry (fibs (rib m));
}
