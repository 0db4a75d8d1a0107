-- Tables that a chip may be made of, table by table.
use Rattle.std.proofs.Common.{◌≡◌, ◌<◌, ◌≤◌, ℕ, All, Option, IsSome, List, get_or, length, sym, ap, ◌∙◌, subst, arith}
use Rattle.std.specs.Ordering.{nat_cmp}
use Rattle.std.specs.declared.cmp.Ordering.{Ordering}
use Rattle.std.proofs.lemmas.List.{length-map}
use Rattle.keyed.specs.Keyed.{Ascends, Each}
use Rattle.keyed.specs.KeyOrders.{nat_order}
use Rattle.keyed.specs.EachLaws.{all-each, each-all}
use Rattle.keyed.specs.Named.{AreDistinct}
use Rattle.net_types.specs.Derived.{host-derived, route-derived}
use Rattle.net_types.specs.Groups.{group_key_cmp, group_key_of}
use Rattle.net_types.specs.KeyOrder.{host_cmp, l2_cmp, route_cmp, route_order}
use Rattle.net_types.specs.contracts.table.HostKeyOrd.TheImpl as host
use Rattle.net_types.specs.contracts.table.RouteKeyOrd.TheImpl as route
use Rattle.net_types.specs.declared.group.Member.{Member}
use Rattle.net_types.specs.declared.table.Caps.{Caps}
use Rattle.net_types.specs.declared.table.HostKey.{HostKey}
use Rattle.net_types.specs.declared.table.HostRow.{HostRow}
use Rattle.net_types.specs.declared.table.RouteKey.{RouteKey}
use Rattle.net_types.specs.declared.table.RouteRow.{RouteRow}
use Rattle.net_types.specs.declared.table.RouteRow.TheVariants.{Host, Group, ToCpu, Discard}
use Rattle.net_types.specs.declared.table.Tables.{Tables}
use Rattle.chip_core.specs.Chip.{AreLinked, AreShaped, IsImage}
use Rattle.chip_core.specs.References.{IsRouteHeld, AreMembersHeld}
use Rattle.chip_core.specs.Sim.{Contents, tables_of, targets}
use Rattle.chip_core.specs.Slots.{Groups, Hosts, host_entries, host_rows, host_at}
use Rattle.chip_core.specs.SlotsLaws.{Entries, rows-entries, host_at-rows}
use Rattle.chip_core.specs.Tables.{AreInOrder, AreSlots, IsSlotted, IsGroupRow, MembersHeld, RoutesHeld}
use Rattle.chip_core.proofs.SlotLaws.{all-below, below-all}
use Rattle.chip_core.proofs.TakenLaws.{few_slots}
use Rattle.sorted_table.specs.Rows.{IsSorted}

-- slots, row by row
pub slots_from : {V : Type 0} (high : ℕ) (rows : List (ℕ × V)) → Ascends nat_cmp rows → All (λ row. row.0 < high) rows → AreSlots high rows
slots_from high rows ascends all = record { ascends = ascends; fits = few_slots rows high ascends all; below = below-all high rows all }

pub slots-all : {V : Type 0} (high : ℕ) (rows : List (ℕ × V)) → AreSlots high rows → All (λ row. row.0 < high) rows
slots-all high rows slots = all-below high rows slots.ascends slots.below

-- held whatever stands in the other two tables
held-elsewhere : (c : Contents) (row : RouteRow) → IsRouteHeld (tables_of (targets c.host c.group)) row → IsRouteHeld (tables_of c) row
held-elsewhere c (Host slot) held = held
held-elsewhere c (Group slot) held = held
held-elsewhere c ToCpu held = tt
held-elsewhere c Discard held = tt

linked_from : (c : Contents) → All (λ group. IsGroupRow group.1) c.group → MembersHeld c.host c.group → RoutesHeld c.host c.group c.route → AreLinked (tables_of c)
linked_from c rows members held = record {
  lengths = all-each nat_cmp nat_order (λ (g : List Member). _) c.group (λ k d lt. (rows k d lt).long);
  members = all-each nat_cmp nat_order (AreMembersHeld (tables_of c)) c.group (λ k d lt. λ i e within. subst (λ (o : Option (HostKey × HostRow)). IsSome o) (sym (host_at-rows (get_or (get_or c.group k d).1 i e).host c.host)) (members k d lt i e within));
  routes = all-each route_cmp route_order (IsRouteHeld (tables_of c)) c.route (λ k d lt. held-elsewhere c (get_or c.route k d).1 (held k d lt));
}

module _ (caps : Caps) (tables : Tables) where
  few_hosts : length (host_entries tables.host) ≤ caps.host → length tables.host ≤ caps.host
  few_hosts fits = let entry : ℕ × HostKey × HostRow → ℕ × (HostKey × HostRow) = λ h. (h.0, (h.1, h.2)) in omega (arith, length-map tables.host entry, fits)

  pub shaped_from : AreInOrder caps tables → All (λ group. IsGroupRow group.1) tables.group → MembersHeld (host_entries tables.host) tables.group → RoutesHeld (host_entries tables.host) tables.group tables.route → AreShaped caps tables
  shaped_from order rows members routes =
      let c : Contents = record { l2 = tables.l2; host = host_entries tables.host; group = tables.group; route = tables.route } in
      record {
        l2 = order.l2.ascends;
        host = order.host.ascends;
        group = order.group.ascends;
        route = order.route.ascends;
        links = subst (λ (h : Hosts). AreLinked (record tables { host = h })) (rows-entries tables.host) (linked_from c rows members routes);
        within = record {
          l2 = order.l2.fits;
          host = few_hosts order.host.fits;
          group = order.group.fits;
          route = order.route.fits;
          host_slots = order.host.below;
          group_slots = order.group.below;
        };
        once = all-each nat_cmp nat_order (λ (g : List Member). _) tables.group (λ k d lt. (rows k d lt).once);
      }

  pub image_from : AreShaped caps tables → AreDistinct host_cmp (λ h. h.0) (host_entries tables.host) → AreDistinct group_key_cmp group_key_of tables.group → IsImage caps tables
  image_from shaped host_keys group_keys = record {
    chip = record {
      rows = record {
        keys = record { l2 = shaped.l2; host = shaped.host; group = shaped.group; route = shaped.route; host_keys = host_keys; group_keys = group_keys };
        links = shaped.links;
      };
      within = shaped.within;
    };
    once = shaped.once;
  }

  -- and the other way round
  pub shaped_image : IsImage caps tables → AreShaped caps tables
  shaped_image image = record {
    l2 = image.chip.rows.keys.l2;
    host = image.chip.rows.keys.host;
    group = image.chip.rows.keys.group;
    route = image.chip.rows.keys.route;
    links = image.chip.rows.links;
    within = image.chip.within;
    once = image.once;
  }

  module _ (shaped : AreShaped caps tables) where
    many_hosts : length (host_entries tables.host) ≤ caps.host
    many_hosts = let entry : ℕ × HostKey × HostRow → ℕ × (HostKey × HostRow) = λ h. (h.0, (h.1, h.2)) in omega (arith, length-map tables.host entry, shaped.within.host)

    pub shaped_order : AreInOrder caps tables
    shaped_order = record {
      l2 = record { ascends = shaped.l2; fits = shaped.within.l2 };
      host = record { ascends = shaped.host; fits = many_hosts; below = shaped.within.host_slots };
      group = record { ascends = shaped.group; fits = shaped.within.group; below = shaped.within.group_slots };
      route = record { ascends = shaped.route; fits = shaped.within.route };
    }

    pub shaped_groups : All (λ group. IsGroupRow group.1) tables.group
    shaped_groups =
        let both : Each nat_cmp IsGroupRow tables.group = record { each = λ k members is. record { long = shaped.links.lengths.each k members is; once = shaped.once.each k members is } } in
        each-all nat_cmp nat_order IsGroupRow tables.group shaped.group both

    pub shaped_members : MembersHeld (host_entries tables.host) tables.group
    shaped_members = each-all nat_cmp nat_order (AreMembersHeld tables) tables.group shaped.group shaped.links.members

    shaped_held : (row : RouteRow) → IsRouteHeld tables row → IsRouteHeld (tables_of (targets (host_entries tables.host) tables.group)) row
    shaped_held (Host slot) held = subst (λ (hosts : Hosts). IsSome (host_at slot hosts)) (sym (rows-entries tables.host)) held
    shaped_held (Group slot) held = held
    shaped_held ToCpu held = tt
    shaped_held Discard held = tt

    pub shaped_routes : RoutesHeld (host_entries tables.host) tables.group tables.route
    shaped_routes = λ k d lt. shaped_held (get_or tables.route k d).1 (each-all route_cmp route_order (IsRouteHeld tables) tables.route shaped.route shaped.links.routes k d lt)

  module _ (image : IsImage caps tables) where
    pub image_l2 : IsSorted l2_cmp caps.l2 tables.l2
    image_l2 = (shaped_order (shaped_image image)).l2

    pub image_route : IsSorted (route.cmp-value).it caps.route tables.route
    image_route = record { ascends = subst (λ (cmp : RouteKey → RouteKey → Ordering). Ascends cmp tables.route) (sym route-derived) image.chip.rows.keys.route; fits = image.chip.within.route }

    pub image_host : IsSlotted (host.cmp-value).it (λ (h : HostKey × HostRow). h.0) caps.host (host_entries tables.host)
    image_host = record {
      ascends = image.chip.rows.keys.host;
      distinct = subst (λ (cmp : HostKey → HostKey → Ordering). AreDistinct cmp (λ (h : HostKey × HostRow). h.0) (host_entries tables.host)) (sym host-derived) image.chip.rows.keys.host_keys;
      fits = many_hosts (shaped_image image);
      below = image.chip.within.host_slots;
    }

    pub image_group : IsSlotted group_key_cmp group_key_of caps.group tables.group
    image_group = record { ascends = image.chip.rows.keys.group; distinct = image.chip.rows.keys.group_keys; fits = image.chip.within.group; below = image.chip.within.group_slots }

-- names that a table by slot keeps distinct
pub hosts_distinct : (high : ℕ) (hosts entries : Entries) → hosts ≡ entries → IsSlotted (host.cmp-value).it (λ (h : HostKey × HostRow). h.0) high hosts → AreDistinct host_cmp (λ h. h.0) entries
hosts_distinct high hosts entries is slotted = subst (λ (l : Entries). AreDistinct host_cmp (λ h. h.0) l) is (subst (λ (cmp : HostKey → HostKey → Ordering). AreDistinct cmp (λ (h : HostKey × HostRow). h.0) hosts) host-derived slotted.distinct)

-- the contents of a chip that was made of tables
pub tables_as : (tables : Tables) (c : Contents) → c.l2 ≡ tables.l2 → c.host ≡ host_entries tables.host → c.group ≡ tables.group → c.route ≡ tables.route → tables_of c ≡ tables
tables_as tables c is_l2 is_host is_group is_route =
    let same : tables_of c ≡ record tables { host = host_rows (host_entries tables.host) } = λ i. record { l2 = is_l2 i; host = host_rows (is_host i); group = is_group i; route = is_route i } in
    same ∙ ap (λ (h : Hosts). record tables { host = h }) (rows-entries tables.host)

-- that members and routes lead to what is there, of lists and of others that are the same
abbrev pub Linked : Hosts → Groups → List (RouteKey × RouteRow) → Type 0
Linked hosts groups routes = MembersHeld (host_entries hosts) groups × RoutesHeld (host_entries hosts) groups routes

pub linked_as : (hosts hosts' : Hosts) (groups groups' : Groups) (routes routes' : List (RouteKey × RouteRow)) → hosts ≡ hosts' → groups ≡ groups' → routes ≡ routes' → Linked hosts' groups' routes' → Linked hosts groups routes
linked_as hosts hosts' groups groups' routes routes' is_host is_group is_route linked = subst (λ (h : Hosts). Linked h groups routes) (sym is_host) (subst (λ (g : Groups). Linked hosts' g routes) (sym is_group) (subst (λ (r : List (RouteKey × RouteRow)). Linked hosts' groups' r) (sym is_route) linked))
