-- Whether a host or a group has a row, by the FIB keys of one hop alone.
use Rattle.std.specs.Prelude.{◌==◌, ◌&&◌, ◌||◌, not, nat_le, Bool, false, List, [], ◌∷◌, length, is_some}
use Rattle.std.specs.List.{list_any}
use Rattle.std.specs.Ordering.{eq_by_cmp}
use Rattle.net_types.specs.declared.table.HostKey.{HostKey}
use Rattle.net_types.specs.KeyOrder.{group_cmp}
use Rattle.switch_model.specs.PlainState.{PlainState, neighbor_at}
use Rattle.switch_model.specs.Rows.{neighbor_of_host}
use Rattle.row_laws.specs.RowAt.{hosts_at, fibs_of}

-- a host may have a row: it is a neighbour, or the FIB has a key with that hop
abbrev pub is_host_by_hop : PlainState → HostKey → Bool
is_host_by_hop m host = is_some (neighbor_at m (neighbor_of_host host)) || not (length (fibs_of m host) == 0)

-- hosts are a group: there are two or more of them, and some FIB key with the first of them as a hop has just them
abbrev pub is_group_by_hop : PlainState → List HostKey → Bool
is_group_by_hop m [] = false
is_group_by_hop m (host ∷ hosts) = nat_le 2 (length (host ∷ hosts)) && list_any (λ key. eq_by_cmp group_cmp (host ∷ hosts) (hosts_at m key)) (fibs_of m host)
