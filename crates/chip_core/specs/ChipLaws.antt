-- What holds of a chip's tables: what is found is there, and what is taken away may be put back.
use Rattle.std.proofs.Common.{◌≡◌, ◌≢◌, ◌≤◌, ◌<◌, ℕ, Bool, All, None, Some, List, [], length, refl, sym, ap, ◌∙◌, subst, arith}
use Rattle.std.specs.Option.{option_map}
use Rattle.std.specs.Ordering.{nat_cmp}
use Rattle.std.proofs.Math.ListN.{get_or-map}
use Rattle.std.proofs.lemmas.List.{length-map}
use Rattle.keyed.specs.Keyed.{at, without, Each}
use Rattle.keyed.specs.KeyOrders.{nat_order}
use Rattle.keyed.specs.KeyedLaws.{at-without, length-without}
use Rattle.keyed.specs.EachLaws.{each_nil, named-at}
use Rattle.keyed.specs.NamedLaws.{key_of-without_same, length-gathered}
use Rattle.keyed.specs.ValueLaws.{length-with_values}
use Rattle.net_types.specs.Groups.{group_key_cmp, group_key_of, group_key_order}
use Rattle.net_types.specs.KeyOrder.{group_cmp, host_cmp, host_order, l2_cmp, l2_order, route_cmp, route_order}
use Rattle.net_types.specs.declared.group.Member.{Member}
use Rattle.net_types.specs.declared.table.Caps.{Caps}
use Rattle.net_types.specs.declared.table.HostKey.{HostKey}
use Rattle.net_types.specs.declared.table.HostRow.{HostRow}
use Rattle.net_types.specs.declared.table.L2Key.{L2Key}
use Rattle.net_types.specs.declared.table.L2Row.{L2Row}
use Rattle.net_types.specs.declared.table.RouteKey.{RouteKey}
use Rattle.net_types.specs.declared.table.RouteRow.{RouteRow}
use Rattle.net_types.specs.declared.table.RouteRow.TheVariants.{Host, Group, ToCpu, Discard}
use Rattle.net_types.specs.declared.table.Tables.{Tables}
use Rattle.chip_core.specs.Chip.{IsChip, keys_of, marks_of, target_of, view_of}
use Rattle.chip_core.specs.References.{IsHost, IsGroup, AreMembersHeld, IsRouteHeld, IsUnusedHost, IsUnusedGroup}
use Rattle.chip_core.specs.Slots.{host_entries, host_at, slot_of, group_slot_of, hosts_of, without_host}
use Rattle.chip_core.specs.SlotsLaws.{Entries, host_at-rows, slot_of-rows, length-rows}

-- a host that is found is there
pub host-found : (caps : Caps) (raw : Tables) (key : HostKey) (slot : ℕ) → IsChip caps raw → slot_of key raw.host ≡ Some slot → IsHost raw slot
host-found caps raw key slot chip found =
    let there = named-at nat_cmp nat_order host_cmp host_order (λ h. h.0) key slot (host_entries raw.host) chip.rows.keys.host found in
    rw there.1.0 refl

-- a group that is found is there
pub group-found : (caps : Caps) (raw : Tables) (hosts : List ℕ) (slot : ℕ) → IsChip caps raw → group_slot_of hosts raw.group ≡ Some slot → IsGroup raw slot
group-found caps raw hosts slot chip found =
    let there = named-at nat_cmp nat_order group_key_cmp group_key_order group_key_of hosts slot raw.group chip.rows.keys.group found in
    rw there.1.0 refl

-- and has that key
pub group-keyed : (caps : Caps) (raw : Tables) (hosts : List ℕ) (slot : ℕ) → IsChip caps raw → group_slot_of hosts raw.group ≡ Some slot → option_map group_key_of (at nat_cmp slot raw.group) ≡ Some hosts
group-keyed caps raw hosts slot chip found =
    let there = named-at nat_cmp nat_order group_key_cmp group_key_order group_key_of hosts slot raw.group chip.rows.keys.group found in
    rw there.1.0 (ap (λ (l : List ℕ). Some l) there.1.1)

-- what put_back asks of an l2 row's key
pub record IsL2Room (caps : Caps) (raw : Tables) (key : L2Key) : Type 0 where
  pub absent : at l2_cmp key raw.l2 ≡ None
  pub room : length raw.l2 < caps.l2

-- an l2 row that was taken away may be put back
pub l2-gone : (caps : Caps) (raw : Tables) (key : L2Key) (row : L2Row) → IsChip caps raw → at l2_cmp key raw.l2 ≡ Some row → IsL2Room caps (record raw { l2 = without l2_cmp key raw.l2 }) key
l2-gone caps raw key row chip there = record {
  absent = at-without l2_cmp l2_order key raw.l2 chip.rows.keys.l2;
  room = omega (arith, length-without l2_cmp l2_order key row raw.l2 there, chip.within.l2);
}

-- what put_back asks of a host's key and slot
pub record IsHostRoom (caps : Caps) (raw : Tables) (slot : ℕ) (key : HostKey) : Type 0 where
  pub absent : slot_of key raw.host ≡ None
  pub free : host_at slot raw.host ≡ None
  pub below : slot < caps.host
  pub room : length raw.host < caps.host

-- a host that was taken away may be put back
pub host-gone : (caps : Caps) (raw : Tables) (slot : ℕ) (host : HostKey × HostRow) → IsChip caps raw → host_at slot raw.host ≡ Some host → IsHostRoom caps (record raw { host = without_host slot raw.host }) slot host.0
host-gone caps raw slot host chip there =
    let entries = host_entries raw.host in
    let gone : Entries = without nat_cmp slot entries in
    let entry : ℕ × HostKey × HostRow → ℕ × (HostKey × HostRow) = λ h. (h.0, (h.1, h.2)) in
    record {
      absent = slot_of-rows host.0 gone ∙ key_of-without_same nat_cmp nat_order host_cmp host_order (λ h. h.0) slot host entries chip.rows.keys.host_keys there;
      free = host_at-rows slot gone ∙ at-without nat_cmp nat_order slot entries chip.rows.keys.host;
      below = chip.within.host_slots slot (rw there refl);
      room = omega (arith, length-rows gone, length-without nat_cmp nat_order slot host entries there, length-map raw.host entry, chip.within.host);
    }

-- what put_back asks of a group's row and slot
pub record IsGroupRoom (caps : Caps) (raw : Tables) (slot : ℕ) (row : List Member) : Type 0 where
  pub absent : group_slot_of (group_key_of row) raw.group ≡ None
  pub held : AreMembersHeld raw row
  pub free : at nat_cmp slot raw.group ≡ None
  pub below : slot < caps.group
  pub room : length raw.group < caps.group

-- a group that was taken away may be put back
pub group-gone : (caps : Caps) (raw : Tables) (slot : ℕ) (row : List Member) → IsChip caps raw → at nat_cmp slot raw.group ≡ Some row → IsGroupRoom caps (record raw { group = without nat_cmp slot raw.group }) slot row
group-gone caps raw slot row chip there = record {
  absent = key_of-without_same nat_cmp nat_order group_key_cmp group_key_order group_key_of slot row raw.group chip.rows.keys.group_keys there;
  held = chip.rows.links.members.each slot row there;
  free = at-without nat_cmp nat_order slot raw.group chip.rows.keys.group;
  below = chip.within.group_slots slot (rw there refl);
  room = omega (arith, length-without nat_cmp nat_order slot row raw.group there, chip.within.group);
}

-- what a route leads to doesn't depend on other routes
held-beside : (raw : Tables) (routes : List (RouteKey × RouteRow)) (row : RouteRow) → IsRouteHeld raw row → IsRouteHeld (record raw { route = routes }) row
held-beside raw routes (Host slot) held = held
held-beside raw routes (Group slot) held = held
held-beside raw routes ToCpu held = tt
held-beside raw routes Discard held = tt

-- what put_back asks of a route's key and row
pub record IsRouteRoom (caps : Caps) (raw : Tables) (key : RouteKey) (row : RouteRow) : Type 0 where
  pub absent : at route_cmp key raw.route ≡ None
  pub held : IsRouteHeld raw row
  pub room : length raw.route < caps.route

-- a route that was taken away may be put back
pub route-gone : (caps : Caps) (raw : Tables) (key : RouteKey) (row : RouteRow) → IsChip caps raw → at route_cmp key raw.route ≡ Some row → IsRouteRoom caps (record raw { route = without route_cmp key raw.route }) key row
route-gone caps raw key row chip there = record {
  absent = at-without route_cmp route_order key raw.route chip.rows.keys.route;
  held = held-beside raw (without route_cmp key raw.route) row (chip.rows.links.routes.each key row there);
  room = omega (arith, length-without route_cmp route_order key row raw.route there, chip.within.route);
}

-- nothing leads to a host of a chip without groups and routes, nor to a group of one without routes
pub host-unused : (raw : Tables) (slot : ℕ) → raw.group ≡ [] → raw.route ≡ [] → IsUnusedHost raw slot
host-unused raw slot no_group no_route = record {
  group = subst (λ (g : List (ℕ × List Member)). Each nat_cmp (λ members. All (λ m. m.host ≢ slot) members) g) (sym no_group) (each_nil nat_cmp nat_order _);
  route = subst (λ (r : List (RouteKey × RouteRow)). Each route_cmp (λ row. row ≢ Host slot) r) (sym no_route) (each_nil route_cmp route_order _);
}

pub group-unused : (raw : Tables) (slot : ℕ) → raw.route ≡ [] → IsUnusedGroup raw slot
group-unused raw slot no_route = subst (λ (r : List (RouteKey × RouteRow)). Each route_cmp (λ row. row ≢ Group slot) r) (sym no_route) (each_nil route_cmp route_order _)

-- members whose hosts are such, host by host
pub members-held : (Is : ℕ → Type 0) (members : List Member) → All Is (hosts_of members) → All (λ m. Is m.host) members
members-held Is members all k d lt = subst Is (get_or-map (λ (m : Member). m.host) members k d) (all k d.host (subst (λ (n : ℕ). k < n) (sym (length-map members (λ m. m.host))) lt))

-- what a chip holds fits it, table by table
pub record IsViewWithin (caps : Caps) (raw : Tables) : Type 0 where
  pub l2 : length (view_of raw).l2 ≤ caps.l2
  pub host : length (view_of raw).host ≤ caps.host
  pub group : length (view_of raw).group ≤ caps.group
  pub route : length (view_of raw).route ≤ caps.route

pub view-within : (caps : Caps) (raw : Tables) → IsChip caps raw → IsViewWithin caps raw
view-within caps raw chip =
    let entry : ℕ × HostKey × HostRow → ℕ × (HostKey × HostRow) = λ h. (h.0, (h.1, h.2)) in
    let host : HostKey × HostRow → HostKey × HostRow = λ h. h in
    let group : List Member → List HostKey × List Bool = λ members. (keys_of raw.host members, marks_of members) in
    record {
      l2 = chip.within.l2;
      host = omega (arith, length-gathered host_cmp host (host_entries raw.host), length-map raw.host entry, chip.within.host);
      group = omega (arith, length-gathered group_cmp group raw.group, chip.within.group);
      route = omega (arith, length-with_values (target_of raw) raw.route, chip.within.route);
    }
