-- The row under one key of each table, by look-ups of what the row names.
use Rattle.std.specs.Prelude.{◌&&◌, ◌||◌, nat_le, Bool, Option, None, Some, List, [], length, map, filter, option_map, is_some, if◌then◌else◌}
use Rattle.std.specs.List.{list_any}
use Rattle.std.specs.Ordering.{eq_by_cmp}
use Rattle.keyed.specs.Keyed.{at}
use Rattle.net_types.specs.declared.table.HopTarget.{HopTarget}
use Rattle.net_types.specs.declared.table.HostKey.{HostKey}
use Rattle.net_types.specs.declared.table.HostRow.{HostRow}
use Rattle.net_types.specs.declared.table.L2Key.{L2Key}
use Rattle.net_types.specs.declared.table.L2Row.{L2Row}
use Rattle.net_types.specs.declared.table.RouteKey.{RouteKey}
use Rattle.net_types.specs.KeyOrder.{host_cmp, group_cmp, route_cmp}
use Rattle.switch_model.specs.declared.record.FibEntry.{FibEntry}
use Rattle.switch_model.specs.Fib.{fibs}
use Rattle.switch_model.specs.PlainState.{PlainState, rib, mac_at, neighbor_at}
use Rattle.switch_model.specs.Rows.{l2_row, host_row, live, neighbor_of_host, forward_hosts, target_of_entry}

-- the FIB entry under a key, where there is one
abbrev pub fib_at : PlainState → RouteKey → Option FibEntry
fib_at m key = at route_cmp key (fibs (rib m))

-- the hosts that an entry forwards to, none where there is no entry
abbrev pub entry_hosts : Option FibEntry → List HostKey
entry_hosts None = []
entry_hosts (Some entry) = forward_hosts entry

-- the hosts that the entry under a key forwards to
abbrev pub hosts_at : PlainState → RouteKey → List HostKey
hosts_at m key = entry_hosts (fib_at m key)

-- the entry forwards to the host
abbrev pub forwards_to : HostKey → FibEntry → Bool
forwards_to host entry = list_any (eq_by_cmp host_cmp host) (forward_hosts entry)

-- the entry forwards to just these hosts, in this order
abbrev pub is_forward_to : List HostKey → FibEntry → Bool
is_forward_to hosts entry = eq_by_cmp group_cmp hosts (forward_hosts entry)

-- the keys of the entries that forward to the host, ascending
abbrev pub fibs_of : PlainState → HostKey → List RouteKey
fibs_of m host = map (λ e. e.0) (filter (λ e. forwards_to host e.1) (fibs (rib m)))

-- a host may have a row: it is a neighbour, or some entry forwards to it
abbrev pub is_host : PlainState → HostKey → Bool
is_host m host = is_some (neighbor_at m (neighbor_of_host host)) || list_any (λ e. forwards_to host e.1) (fibs (rib m))

-- hosts are a group: there are two or more of them, and some entry forwards to just them
abbrev pub is_group : PlainState → List HostKey → Bool
is_group m hosts = nat_le 2 (length hosts) && list_any (λ e. is_forward_to hosts e.1) (fibs (rib m))

-- the row of a station: that of its record, where it has one
abbrev pub l2_row_at : PlainState → L2Key → Option L2Row
l2_row_at m key = option_map (l2_row m) (mac_at m key)

-- the row of a host: only a neighbour, or what some entry forwards to, has one
abbrev pub host_row_at : PlainState → HostKey → Option HostRow
host_row_at m host = if is_host m host then host_row m host else None

-- the row of a group: a live mark for each of its hosts
abbrev pub group_row_at : PlainState → List HostKey → Option (List Bool)
group_row_at m hosts = if is_group m hosts then Some (map (live m) hosts) else None

-- the row of a route: what the FIB entry under its key leads to
abbrev pub route_row_at : PlainState → RouteKey → Option HopTarget
route_row_at m key = option_map target_of_entry (fib_at m key)
