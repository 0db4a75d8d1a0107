-- What is added and taken away leaves members and routes with hosts and groups to lead to.
use Rattle.std.proofs.Common.{◌≡◌, ◌≢◌, ◌<◌, ℕ, Option, Some, IsSome, List, [], length, get_or, refl, sym, ap, ◌∙◌, subst}
use Rattle.std.specs.List.{All}
use Rattle.std.proofs.Math.ListN.{get_or-map}
use Rattle.std.proofs.lemmas.List.{length-map}
use Rattle.std.proofs.lemmas.List.Elements.{All-map}
use Rattle.std.specs.Ordering.{nat_cmp}
use Rattle.keyed.specs.Keyed.{at, put, without, Ascends}
use Rattle.keyed.specs.KeyOrders.{nat_order}
use Rattle.keyed.specs.EachLaws.{there-put, there-without, each-put, each-without, each_nil}
use Rattle.net_types.specs.Groups.{IsGroupLength, group_key_of}
use Rattle.net_types.specs.KeyOrder.{route_cmp, route_order}
use Rattle.net_types.specs.declared.group.Member.{Member}
use Rattle.net_types.specs.declared.table.L2Key.{L2Key}
use Rattle.net_types.specs.declared.table.L2Row.{L2Row}
use Rattle.net_types.specs.declared.table.RouteKey.{RouteKey}
use Rattle.net_types.specs.declared.table.RouteRow.{RouteRow}
use Rattle.net_types.specs.declared.table.Tables.{Tables}
use Rattle.net_types.specs.declared.table.RouteRow.TheVariants.{Host, Group, ToCpu, Discard}
use Rattle.chip_core.specs.Chip.{AreLinked}
use Rattle.chip_core.specs.References.{IsHost, IsGroup, AreMembersHeld, IsRouteHeld, IsUnusedHost, IsUnusedGroup}
use Rattle.chip_core.specs.Sim.{Contents, tables_of}
use Rattle.chip_core.specs.SlotsLaws.{Entries, host_at-rows}

abbrev L2s : Type 0
L2s = List (L2Key × L2Row)

-- a chip without groups and routes leads nowhere
pub linked-empty : (l2 : L2s) (hosts : Entries) → AreLinked (tables_of (record { l2 = l2; host = hosts; group = []; route = [] }))
linked-empty l2 hosts = record { lengths = each_nil nat_cmp nat_order _; members = each_nil nat_cmp nat_order _; routes = each_nil route_cmp route_order _ }

to_host : (c : Contents) (slot : ℕ) → IsSome (at nat_cmp slot c.host) → IsHost (tables_of c) slot
to_host c slot there = subst (λ (o : Option _). IsSome o) (sym (host_at-rows slot c.host)) there

of_host : (c : Contents) (slot : ℕ) → IsHost (tables_of c) slot → IsSome (at nat_cmp slot c.host)
of_host c slot there = subst (λ (o : Option _). IsSome o) (host_at-rows slot c.host) there

-- a route is held where the hosts and groups that routes lead to stay
route_by : (a b : Tables) (row : RouteRow) → ((s : ℕ) → row ≡ Host s → IsHost a s → IsHost b s) → ((s : ℕ) → row ≡ Group s → IsGroup a s → IsGroup b s) → IsRouteHeld a row → IsRouteHeld b row
route_by a b (Host s) by_host by_group held = by_host s refl held
route_by a b (Group s) by_host by_group held = by_group s refl held
route_by a b ToCpu by_host by_group held = tt
route_by a b Discard by_host by_group held = tt

length-same : (row before : List Member) → group_key_of row ≡ group_key_of before → length before ≡ length row
length-same row before same = sym (length-map before (λ m. m.host)) ∙ ap length (sym same) ∙ length-map row (λ m. m.host)

held-same : (Is : ℕ → Type 0) (row other : List Member) → group_key_of row ≡ group_key_of other → All (λ m. Is m.host) row → All (λ m. Is m.host) other
held-same Is row other same all =
    let by_slot = subst (λ (slots : List ℕ). All Is slots) same (All-map Is (λ (m : Member). m.host) row all) in
    λ k d lt. subst Is (get_or-map (λ (m : Member). m.host) other k d) (by_slot k d.host (subst (λ (n : ℕ). k < n) (sym (length-map other (λ m. m.host))) lt))

module _ (c : Contents) (old : AreLinked (tables_of c)) where
  -- another l2 table
  pub linked-l2 : (l2 : L2s) → AreLinked (tables_of (record c { l2 = l2 }))
  linked-l2 l2 = record { lengths = old.lengths; members = old.members; routes = record { each = λ k row is. route_by (tables_of c) (tables_of (record c { l2 = l2 })) row (λ s e h. h) (λ s e h. h) (old.routes.each k row is) } }

  -- a host more, or another row of one
  pub linked-put_host : (slot : ℕ) (host : _) → AreLinked (tables_of (record c { host = put nat_cmp slot host c.host }))
  linked-put_host slot host =
      let now : Contents = record c { host = put nat_cmp slot host c.host } in
      let more = λ (s : ℕ) (there : IsHost (tables_of c) s). to_host now s (there-put nat_cmp nat_order s slot host c.host (of_host c s there)) in
      record {
        lengths = old.lengths;
        members = record { each = λ k members is. λ i d lt. more (get_or members i d).host (old.members.each k members is i d lt) };
        routes = record { each = λ k row is. route_by (tables_of c) (tables_of now) row (λ s e. more s) (λ s e h. h) (old.routes.each k row is) };
      }

  -- a host less, to which nothing led
  pub linked-without_host : (slot : ℕ) → Ascends nat_cmp c.host → IsUnusedHost (tables_of c) slot → AreLinked (tables_of (record c { host = without nat_cmp slot c.host }))
  linked-without_host slot asc unused =
      let now : Contents = record c { host = without nat_cmp slot c.host } in
      let stays = λ (s : ℕ) (other : s ≢ slot) (there : IsHost (tables_of c) s). to_host now s (there-without nat_cmp nat_order s slot c.host asc other (of_host c s there)) in
      record {
        lengths = old.lengths;
        members = record { each = λ k members is. λ i d lt. stays (get_or members i d).host (unused.group.each k members is i d lt) (old.members.each k members is i d lt) };
        routes = record { each = λ k row is. route_by (tables_of c) (tables_of now) row (λ s e. stays s (λ same. unused.route.each k row is (e ∙ ap Host same))) (λ s e h. h) (old.routes.each k row is) };
      }

  -- a group more, or another row of one
  pub linked-put_group : (slot : ℕ) (row : List Member) → IsGroupLength (length row) → AreMembersHeld (tables_of c) row → AreLinked (tables_of (record c { group = put nat_cmp slot row c.group }))
  linked-put_group slot row long held = record {
    lengths = each-put nat_cmp nat_order _ slot row c.group long old.lengths;
    members = each-put nat_cmp nat_order (AreMembersHeld (tables_of c)) slot row c.group held old.members;
    routes = record { each = λ k r is. route_by (tables_of c) (tables_of (record c { group = put nat_cmp slot row c.group })) r (λ s e h. h) (λ s e h. there-put nat_cmp nat_order s slot row c.group h) (old.routes.each k r is) };
  }

  -- a group less, to which nothing led
  pub linked-without_group : (slot : ℕ) → Ascends nat_cmp c.group → IsUnusedGroup (tables_of c) slot → AreLinked (tables_of (record c { group = without nat_cmp slot c.group }))
  linked-without_group slot asc unused = record {
    lengths = each-without nat_cmp nat_order _ slot c.group asc old.lengths;
    members = each-without nat_cmp nat_order (AreMembersHeld (tables_of c)) slot c.group asc old.members;
    routes = record { each = λ k r is. route_by (tables_of c) (tables_of (record c { group = without nat_cmp slot c.group })) r (λ s e h. h) (λ s e h. there-without nat_cmp nat_order s slot c.group asc (λ same. unused.each k r is (e ∙ ap Group same)) h) (old.routes.each k r is) };
  }

  -- a route more
  pub linked-put_route : (key : RouteKey) (row : RouteRow) → IsRouteHeld (tables_of c) row → AreLinked (tables_of (record c { route = put route_cmp key row c.route }))
  linked-put_route key row held = record {
    lengths = old.lengths;
    members = old.members;
    routes =
        let all = each-put route_cmp route_order (IsRouteHeld (tables_of c)) key row c.route held old.routes in
        record { each = λ k r is. route_by (tables_of c) (tables_of (record c { route = put route_cmp key row c.route })) r (λ s e h. h) (λ s e h. h) (all.each k r is) };
  }

  -- a route less
  pub linked-without_route : (key : RouteKey) → Ascends route_cmp c.route → AreLinked (tables_of (record c { route = without route_cmp key c.route }))
  linked-without_route key asc = record {
    lengths = old.lengths;
    members = old.members;
    routes =
        let all = each-without route_cmp route_order (IsRouteHeld (tables_of c)) key c.route asc old.routes in
        record { each = λ k r is. route_by (tables_of c) (tables_of (record c { route = without route_cmp key c.route })) r (λ s e h. h) (λ s e h. h) (all.each k r is) };
  }

  -- another row with the same key
  pub linked-set_group : (slot : ℕ) (before row : List Member) → at nat_cmp slot c.group ≡ Some before → group_key_of row ≡ group_key_of before → AreLinked (tables_of (record c { group = put nat_cmp slot row c.group }))
  linked-set_group slot before row there same = linked-put_group slot row
      (subst IsGroupLength (length-same row before same) (old.lengths.each slot before there))
      (held-same (IsHost (tables_of c)) before row (sym same) (old.members.each slot before there))
