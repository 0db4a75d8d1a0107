-- The keys of hosts and groups by their slots, and rows that are read with them.
use Rattle.std.specs.Prelude.{ℕ, Bool, List, map}
use Rattle.std.specs.List.{IsDistinct, filter_map}
use Rattle.std.specs.Option.{option_map_or}
use Rattle.std.specs.Ordering.{is_eq, nat_cmp}
use Rattle.std.specs.declared.cmp.Ordering.{Ordering}
use Rattle.keyed.specs.Keyed.{at}
use Rattle.net_types.specs.declared.group.Member.{Member}
use Rattle.net_types.specs.declared.table.HopTarget.{HopTarget}
use Rattle.net_types.specs.declared.table.HopTarget.TheVariants.{Host as HopHost, Group as HopGroup, ToCpu as HopCpu, Discard as HopDiscard}
use Rattle.net_types.specs.declared.table.HostKey.{HostKey}
use Rattle.net_types.specs.declared.table.RouteKey.{RouteKey}
use Rattle.net_types.specs.declared.table.RouteRow.{RouteRow}
use Rattle.net_types.specs.declared.table.RouteRow.TheVariants.{Host, Group, ToCpu, Discard}
use Rattle.chip_core.specs.Chip.{marks_of}
use Rattle.chip_core.specs.Slots.{Groups, Hosts}

-- the key of each host, by slot
abbrev pub host_keys : Hosts → List (ℕ × HostKey)
host_keys hosts = map (λ h. (h.0, h.1)) hosts

-- the keys of the hosts in the members' slots, in order
abbrev pub member_keys : List (ℕ × HostKey) → List Member → List HostKey
member_keys keys members = filter_map (λ m. at nat_cmp m.host keys) members

-- the key of each group, by slot
abbrev pub group_keys : List (ℕ × HostKey) → Groups → List (ℕ × List HostKey)
group_keys keys groups = map (λ g. (g.0, member_keys keys g.1)) groups

-- the row of each group, in the order of slots
abbrev pub group_rows : List (ℕ × HostKey) → Groups → List (List HostKey × List Bool)
group_rows keys groups = map (λ g. (member_keys keys g.1, marks_of g.1)) groups

-- where a route to the host in the slot leads
abbrev pub host_target : List (ℕ × HostKey) → ℕ → HopTarget
host_target hosts slot = option_map_or HopHost (at nat_cmp slot hosts) HopDiscard

-- where a route to the group in the slot leads
abbrev pub group_target : List (ℕ × List HostKey) → ℕ → HopTarget
group_target groups slot = option_map_or HopGroup (at nat_cmp slot groups) HopDiscard

-- where a route leads
abbrev pub target_at : List (ℕ × HostKey) → List (ℕ × List HostKey) → RouteRow → HopTarget
target_at hosts groups (Host slot) = host_target hosts slot
target_at hosts groups (Group slot) = group_target groups slot
target_at hosts groups ToCpu = HopCpu
target_at hosts groups Discard = HopDiscard

-- where each route leads
abbrev pub route_rows : List (ℕ × HostKey) → List (ℕ × List HostKey) → List (RouteKey × RouteRow) → List (RouteKey × HopTarget)
route_rows hosts groups routes = map (λ r. (r.0, target_at hosts groups r.1)) routes

-- two entries have one key
abbrev pub have_one_key : {K V : Type 0} → (K → K → Ordering) → K × V → K × V → Bool
have_one_key cmp x y = is_eq (cmp x.0 y.0)

-- no two entries have one key
abbrev pub AreApart : {K V : Type 0} → (K → K → Ordering) → List (K × V) → Type 0
AreApart cmp entries = IsDistinct (have_one_key cmp) entries
