-- Rows in the order of slots, put in order, are the rows that the tables mean.
use Rattle.std.proofs.Common.{◌≡◌, ℕ, Bool, List, [], ◌∷◌, map, refl, sym, ap, subst, ◌∙◌}
use Rattle.std.specs.List.Sorted.{IsPermutation}
use Rattle.std.specs.Ordering.{nat_cmp}
use Rattle.keyed.specs.Keyed.{Ascends}
use Rattle.keyed.specs.Named.{AreDistinct, gathered}
use Rattle.net_types.specs.KeyOrder.{group_cmp, group_order, host_cmp, host_order}
use Rattle.net_types.specs.Rows.{Rows}
use Rattle.net_types.specs.declared.group.Member.{Member}
use Rattle.net_types.specs.declared.table.HopTarget.{HopTarget}
use Rattle.net_types.specs.declared.table.HostKey.{HostKey}
use Rattle.net_types.specs.declared.table.HostRow.{HostRow}
use Rattle.net_types.specs.declared.table.L2Key.{L2Key}
use Rattle.net_types.specs.declared.table.L2Row.{L2Row}
use Rattle.net_types.specs.declared.table.RouteKey.{RouteKey}
use Rattle.net_types.specs.declared.table.RouteRow.{RouteRow}
use Rattle.net_types.specs.declared.table.Tables.{Tables}
use Rattle.chip_core.specs.Chip.{IsConsistent, keys_of, marks_of, view_of}
use Rattle.chip_core.specs.MemberSlots.{distinct-keys}
use Rattle.chip_core.specs.Slots.{Groups, Hosts, host_entries}
use Rattle.chip_rows.specs.BySlot.{AreApart, group_keys, group_rows, host_keys, route_rows}
use Rattle.chip_rows.proofs.Gathered.{distinct-apart, ordered-gathered}
use Rattle.chip_rows.proofs.SlotLaws.{group_keys-ascend, group_rows-are, host_keys-ascend, routes-are}

-- the rows of hosts, in the order of slots
abbrev pub host_list : Hosts → List (HostKey × HostRow)
host_list hosts = map (λ host. (host.1, host.2)) hosts

host_list-is : (hosts : Hosts) → map (λ e. e.1) (host_entries hosts) ≡ host_list hosts
host_list-is [] = refl
host_list-is (h ∷ hs) = ap (λ (l : List (HostKey × HostRow)). (h.1, h.2) ∷ l) (host_list-is hs)

pub host-apart : (hosts : Hosts) → AreDistinct host_cmp (λ host. host.0) (host_entries hosts) → AreApart host_cmp (host_list hosts)
host-apart hosts distinct = subst (λ (l : List (HostKey × HostRow)). AreApart host_cmp l) (host_list-is hosts) (distinct-apart host_cmp host_order (λ (host : HostKey × HostRow). host) (host_entries hosts) distinct)

pub host-gathered : (hosts : Hosts) (rows : List (HostKey × HostRow)) → AreDistinct host_cmp (λ host. host.0) (host_entries hosts) → IsPermutation (host_list hosts) rows → Ascends host_cmp rows → rows ≡ gathered host_cmp (λ host. host) (host_entries hosts)
host-gathered hosts rows distinct moved asc = ordered-gathered host_cmp host_order (λ (host : HostKey × HostRow). host) (host_entries hosts) rows distinct (subst (λ (l : List (HostKey × HostRow)). IsPermutation l rows) (sym (host_list-is hosts)) moved) asc

-- the row of a group
abbrev row_of : Hosts → List Member → List HostKey × List Bool
row_of hosts members = (keys_of hosts members, marks_of members)

abbrev Keys : Type 0
Keys = List (ℕ × HostKey)

abbrev GroupKeys : Type 0
GroupKeys = List (ℕ × List HostKey)

abbrev GroupRows : Type 0
GroupRows = List (List HostKey × List Bool)

module _ (raw : Tables) where
  -- what was read of the hosts
  pub hosts-read : (shown keys : Keys) (hosts : Hosts) → shown ≡ keys → keys ≡ host_keys hosts → hosts ≡ raw.host → shown ≡ host_keys raw.host
  hosts-read shown keys hosts is made of = is ∙ made ∙ ap host_keys of

  -- and of the groups
  pub groups-read : (shown keys : GroupKeys) (hosts : Keys) (groups : Groups) → shown ≡ keys → keys ≡ group_keys hosts groups → hosts ≡ host_keys raw.host → groups ≡ raw.group → shown ≡ group_keys (host_keys raw.host) raw.group
  groups-read shown keys hosts groups is made of_hosts of_groups = is ∙ made ∙ ap (λ (l : Keys). group_keys l groups) of_hosts ∙ ap (group_keys (host_keys raw.host)) of_groups

  pub rows-read : (rows : GroupRows) (hosts : Keys) (groups : Groups) → rows ≡ group_rows hosts groups → hosts ≡ host_keys raw.host → groups ≡ raw.group → rows ≡ group_rows (host_keys raw.host) raw.group
  rows-read rows hosts groups made of_hosts of_groups = made ∙ ap (λ (l : Keys). group_rows l groups) of_hosts ∙ ap (group_rows (host_keys raw.host)) of_groups

  pub routes-read : (rows : List (RouteKey × HopTarget)) (hosts : Keys) (groups : GroupKeys) (routes : List (RouteKey × RouteRow)) → rows ≡ route_rows hosts groups routes → hosts ≡ host_keys raw.host → groups ≡ group_keys (host_keys raw.host) raw.group → routes ≡ raw.route → rows ≡ (view_of raw).route
  routes-read rows hosts groups routes made of_hosts of_groups of_routes =
      made ∙ ap (λ (l : Keys). route_rows l groups routes) of_hosts ∙ ap (λ (l : GroupKeys). route_rows (host_keys raw.host) l routes) of_groups ∙ ap (route_rows (host_keys raw.host) (group_keys (host_keys raw.host) raw.group)) of_routes ∙ routes-are raw

  pub rows-joined : (l2 : List (L2Key × L2Row)) (host : List (HostKey × HostRow)) (group : GroupRows) (route : List (RouteKey × HopTarget)) → l2 ≡ raw.l2 → host ≡ (view_of raw).host → group ≡ (view_of raw).group → route ≡ (view_of raw).route →
      record { l2 = l2; host = host; group = group; route = route } ≡ view_of raw
  rows-joined l2 host group route l2_is host_is group_is route_is =
      let all : Rows = view_of raw in
      ap (λ (l : List (L2Key × L2Row)). let r : Rows = record { l2 = l; host = host; group = group; route = route } in r) l2_is
      ∙ ap (λ (l : List (HostKey × HostRow)). let r : Rows = record { l2 = raw.l2; host = l; group = group; route = route } in r) host_is
      ∙ ap (λ (l : GroupRows). let r : Rows = record { l2 = raw.l2; host = all.host; group = l; route = route } in r) group_is
      ∙ ap (λ (l : List (RouteKey × HopTarget)). let r : Rows = record { l2 = raw.l2; host = all.host; group = all.group; route = l } in r) route_is

  module _ (chip : IsConsistent raw) where
    pub hosts-ascend : (shown : Keys) → shown ≡ host_keys raw.host → Ascends nat_cmp shown
    hosts-ascend shown is = subst (λ (l : Keys). Ascends nat_cmp l) (sym is) (host_keys-ascend raw.host chip.keys.host)

    pub groups-ascend : (shown : GroupKeys) → shown ≡ group_keys (host_keys raw.host) raw.group → Ascends nat_cmp shown
    groups-ascend shown is = subst (λ (l : GroupKeys). Ascends nat_cmp l) (sym is) (group_keys-ascend (host_keys raw.host) raw.group chip.keys.group)

    pub rows-apart : (rows : GroupRows) → rows ≡ group_rows (host_keys raw.host) raw.group → AreApart group_cmp rows
    rows-apart rows is = subst (λ (l : GroupRows). AreApart group_cmp l) (sym (is ∙ group_rows-are raw.host raw.group)) (distinct-apart group_cmp group_order (row_of raw.host) raw.group (distinct-keys raw chip))

    pub group-gathered : (rows ordered : GroupRows) → rows ≡ group_rows (host_keys raw.host) raw.group → IsPermutation rows ordered → Ascends group_cmp ordered → ordered ≡ (view_of raw).group
    group-gathered rows ordered is moved asc = ordered-gathered group_cmp group_order (row_of raw.host) raw.group ordered (distinct-keys raw chip) (subst (λ (l : GroupRows). IsPermutation l ordered) (is ∙ group_rows-are raw.host raw.group) moved) asc

    pub distinct-hosts : (hosts : Hosts) → hosts ≡ raw.host → AreDistinct host_cmp (λ host. host.0) (host_entries hosts)
    distinct-hosts hosts is = subst (λ (l : Hosts). AreDistinct host_cmp (λ host. host.0) (host_entries l)) (sym is) chip.keys.host_keys
