-- What changes of a chip's tables do to its view.
use Rattle.std.proofs.Common.{◌≡◌, ◌≢◌, ℕ, Bool, List, All, Option, None, Some, length, refl, sym, ap, ◌∙◌, subst, inl, inr}
use Rattle.std.specs.Option.{option_map, option_map_or}
use Rattle.std.specs.Ordering.{nat_cmp}
use Rattle.keyed.specs.Keyed.{at, put, without, Ascends, Each, with_values}
use Rattle.keyed.specs.KeyOrders.{nat_order}
use Rattle.keyed.specs.KeyedLaws.{decide, at-put, at-put_other, at-without_other, with_values-put, with_values-without}
use Rattle.keyed.specs.Named.{gathered}
use Rattle.keyed.specs.ValueLaws.{ascends-with_values, length-with_values}
use Rattle.std.proofs.lemmas.List.{length-map}
use Rattle.net_types.specs.KeyOrder.{l2_cmp, group_cmp, group_order, host_cmp, host_order, route_cmp, route_order}
use Rattle.net_types.specs.Rows.{Rows}
use Rattle.net_types.specs.declared.group.Member.{Member}
use Rattle.net_types.specs.declared.table.HopTarget.{HopTarget}
use Rattle.net_types.specs.declared.table.HopTarget.TheVariants.{Host as HopHost, Group as HopGroup, Discard as HopDiscard}
use Rattle.net_types.specs.declared.table.HostKey.{HostKey}
use Rattle.net_types.specs.declared.table.HostRow.{HostRow}
use Rattle.net_types.specs.declared.table.RouteKey.{RouteKey}
use Rattle.net_types.specs.declared.table.RouteRow.{RouteRow}
use Rattle.net_types.specs.declared.table.RouteRow.TheVariants.{Host, Group, ToCpu, Discard}
use Rattle.net_types.specs.declared.table.Tables.{Tables}
use Rattle.chip_core.specs.Chip.{IsConsistent, key_in, keys_of, marks_of, target_of, view_of}
use Rattle.chip_core.specs.References.{IsUnusedGroup, IsUnusedHost}
use Rattle.chip_core.specs.Slots.{Groups, Hosts, host_at, host_entries, host_rows, put_host, set_host, without_host}
use Rattle.chip_core.specs.SlotsLaws.{Entries, entries-rows, host_at-rows}
use Rattle.chip_core.specs.ViewLaws.{group_entry}
use Rattle.chip_core.specs.GatheredLaws.{gathered-put, gathered-same, gathered-set, gathered-without, key_of-gathered_none, length-gathered_distinct, ascends-gathered, with_values-same}
use Rattle.chip_core.specs.MemberSlots.{distinct-keys, keys-same}
use Rattle.hw_undo.proofs.Undoing.{set_host-is, set_host-keys}

-- the rows of each table make the rows
rows-same : (a b : Rows) → a.l2 ≡ b.l2 → a.host ≡ b.host → a.group ≡ b.group → a.route ≡ b.route → a ≡ b
rows-same a b l2 host group route = λ i. record { l2 = l2 i; host = host i; group = group i; route = route i }

-- what a route leads to stays, where the slots that it leads to hold the same
target-same : (a b : Tables) (row : RouteRow) → ((slot : ℕ) → row ≡ Host slot → key_in a.host slot ≡ key_in b.host slot) → ((slot : ℕ) → row ≡ Group slot → option_map (keys_of a.host) (at nat_cmp slot a.group) ≡ option_map (keys_of b.host) (at nat_cmp slot b.group)) → target_of a row ≡ target_of b row
target-same a b (Host slot) host group = ap (λ (o : Option HostKey). option_map_or HopHost o HopDiscard) (host slot refl)
target-same a b (Group slot) host group = mapped a.host (at nat_cmp slot a.group) ∙ ap (λ (o : Option (List HostKey)). option_map_or HopGroup o HopDiscard) (group slot refl) ∙ sym (mapped b.host (at nat_cmp slot b.group))
  where
    mapped : (hosts : Hosts) (o : Option (List Member)) → option_map_or (λ members. HopGroup (keys_of hosts members)) o HopDiscard ≡ option_map_or HopGroup (option_map (keys_of hosts) o) HopDiscard
    mapped hosts None = refl
    mapped hosts (Some members) = refl
target-same a b ToCpu host group = refl
target-same a b Discard host group = refl

-- other hosts, where each slot that something leads to holds the same key
pub record KeepsKeys (raw : Tables) (hosts : Hosts) : Type 0 where
  pub members : Each nat_cmp (λ members. All (λ m. key_in hosts m.host ≡ key_in raw.host m.host) members) raw.group
  pub routes : Each route_cmp (λ row. (slot : ℕ) → row ≡ Host slot → key_in hosts slot ≡ key_in raw.host slot) raw.route

pub view-hosts : (raw : Tables) (hosts : Hosts) → IsConsistent raw → KeepsKeys raw hosts → view_of (record raw { host = hosts }) ≡ record (view_of raw) { host = gathered host_cmp (λ h. h) (host_entries hosts) }
view-hosts raw hosts chip keeps =
    let keys : (k : ℕ) (members : List Member) → at nat_cmp k raw.group ≡ Some members → keys_of hosts members ≡ keys_of raw.host members = λ k members there. keys-same hosts raw.host members (keeps.members.each k members there) in
    rows-same (view_of (record raw { host = hosts })) (record (view_of raw) { host = gathered host_cmp (λ h. h) (host_entries hosts) })
    refl
    refl
    (gathered-same nat_cmp nat_order group_cmp (group_entry hosts) (group_entry raw.host) raw.group chip.keys.group (record { each = λ k members there. ap (λ (l : List HostKey). (l, marks_of members)) (keys k members there) }))
    (with_values-same route_cmp route_order (target_of (record raw { host = hosts })) (target_of raw) raw.route chip.keys.route (record {
      each = λ k row there. target-same (record raw { host = hosts }) raw row
          (keeps.routes.each k row there)
          (λ slot is. mapped slot (at nat_cmp slot raw.group) refl);
    }))
  where
    mapped : (slot : ℕ) (o : Option (List Member)) → at nat_cmp slot raw.group ≡ o → option_map (keys_of hosts) o ≡ option_map (keys_of raw.host) o
    mapped slot None is = refl
    mapped slot (Some members) is = ap Some (keys-same hosts raw.host members (keeps.members.each slot members is))

-- other groups, where each slot that a route leads to holds a group of the same hosts
pub view-groups : (raw : Tables) (groups : Groups) → IsConsistent raw → Each route_cmp (λ row. (slot : ℕ) → row ≡ Group slot → option_map (keys_of raw.host) (at nat_cmp slot groups) ≡ option_map (keys_of raw.host) (at nat_cmp slot raw.group)) raw.route → view_of (record raw { group = groups }) ≡ record (view_of raw) { group = gathered group_cmp (group_entry raw.host) groups }
view-groups raw groups chip keeps =
    rows-same (view_of (record raw { group = groups })) (record (view_of raw) { group = gathered group_cmp (group_entry raw.host) groups })
    refl
    refl
    refl
    (with_values-same route_cmp route_order (target_of (record raw { group = groups })) (target_of raw) raw.route chip.keys.route (record { each = λ k row there. target-same (record raw { group = groups }) raw row (λ slot is. refl) (keeps.each k row there) }))

-- other routes
pub view-routes : (raw : Tables) (routes : List (RouteKey × RouteRow)) → view_of (record raw { route = routes }) ≡ record (view_of raw) { route = with_values (target_of raw) routes }
view-routes raw routes =
    rows-same (view_of (record raw { route = routes })) (record (view_of raw) { route = with_values (target_of raw) routes })
    refl
    refl
    refl
    (ap (λ (f : RouteRow → HopTarget). with_values f routes) (λ i row. target-same (record raw { route = routes }) raw row (λ slot is. refl) (λ slot is. refl) i))

-- hosts in another slot stay as they are
key_in-put : (slot q : ℕ) (key : HostKey) (row : HostRow) (hosts : Hosts) → q ≢ slot → key_in (put_host slot key row hosts) q ≡ key_in hosts q
key_in-put slot q key row hosts other = ap (option_map (λ (h : HostKey × HostRow). h.0)) (host_at-rows q (put nat_cmp slot (key, row) (host_entries hosts)) ∙ at-put_other nat_cmp nat_order q slot (key, row) (host_entries hosts) other)

key_in-without : (slot q : ℕ) (hosts : Hosts) → Ascends nat_cmp (host_entries hosts) → q ≢ slot → key_in (without_host slot hosts) q ≡ key_in hosts q
key_in-without slot q hosts asc other = ap (option_map (λ (h : HostKey × HostRow). h.0)) (host_at-rows q (without nat_cmp slot (host_entries hosts)) ∙ at-without_other nat_cmp nat_order q slot (host_entries hosts) asc other)

-- a host in a free slot: nothing led there
pub view-put_host : (raw s : Tables) (slot : ℕ) (key : HostKey) (row : HostRow) → IsConsistent raw → IsUnusedHost raw slot → host_at slot raw.host ≡ None → at host_cmp key (view_of raw).host ≡ None → s ≡ record raw { host = put_host slot key row raw.host } → view_of s ≡ record (view_of raw) { host = put host_cmp key row (view_of raw).host }
view-put_host raw s slot key row chip unused free absent is =
    let hosts = put_host slot key row raw.host in
    let entries = host_entries raw.host in
    ap view_of is
    ∙ view-hosts raw hosts chip (record {
      members = record { each = λ k members there i d lt. key_in-put slot _ key row raw.host (unused.group.each k members there i d lt) };
      routes = record { each = λ k r there q leads. key_in-put slot q key row raw.host (λ same. unused.route.each k r there (leads ∙ ap Host same)) };
    })
    ∙ ap (λ (l : List (HostKey × HostRow)). record (view_of raw) { host = l })
    (ap (gathered host_cmp (λ (h : HostKey × HostRow). h)) (entries-rows (put nat_cmp slot (key, row) entries))
    ∙ gathered-put nat_cmp nat_order host_cmp host_order (λ (h : HostKey × HostRow). h) slot (key, row) entries free (key_of-gathered_none nat_cmp nat_order host_cmp host_order (λ (h : HostKey × HostRow). h) key entries absent))

-- another row of a host
pub view-set_host : (raw s : Tables) (slot : ℕ) (key : HostKey) (old row : HostRow) → IsConsistent raw → host_at slot raw.host ≡ Some (key, old) → s ≡ record raw { host = set_host slot row raw.host } → view_of s ≡ record (view_of raw) { host = put host_cmp key row (view_of raw).host }
view-set_host raw s slot key old row chip there is =
    let entries = host_entries raw.host in
    let now : Entries = put nat_cmp slot (key, row) entries in
    let hosts : set_host slot row raw.host ≡ host_rows now = set_host-is slot (key, old) row raw.host there in
    let same : (q : ℕ) → key_in (set_host slot row raw.host) q ≡ key_in raw.host q = λ q. set_host-keys slot (key, old) row raw.host there q in
    ap view_of is
    ∙ view-hosts raw (set_host slot row raw.host) chip (record { members = record { each = λ k members is2 i d lt. same _ }; routes = record { each = λ k r is2 q leads. same q } })
    ∙ ap (λ (l : List (HostKey × HostRow)). record (view_of raw) { host = l })
    (ap (λ (h : Hosts). gathered host_cmp (λ (h : HostKey × HostRow). h) (host_entries h)) hosts
    ∙ ap (gathered host_cmp (λ (h : HostKey × HostRow). h)) (entries-rows now)
    ∙ gathered-set nat_cmp nat_order host_cmp host_order (λ (h : HostKey × HostRow). h) slot (key, old) (key, row) entries there refl chip.keys.host_keys)

-- a host less, to which nothing leads
pub view-without_host : (raw s : Tables) (slot : ℕ) (host : HostKey × HostRow) → IsConsistent raw → IsUnusedHost raw slot → host_at slot raw.host ≡ Some host → s ≡ record raw { host = without_host slot raw.host } → view_of s ≡ record (view_of raw) { host = without host_cmp host.0 (view_of raw).host }
view-without_host raw s slot host chip unused there is =
    let entries = host_entries raw.host in
    ap view_of is
    ∙ view-hosts raw (without_host slot raw.host) chip (record {
      members = record { each = λ k members is2 i d lt. key_in-without slot _ raw.host chip.keys.host (unused.group.each k members is2 i d lt) };
      routes = record { each = λ k r is2 q leads. key_in-without slot q raw.host chip.keys.host (λ same. unused.route.each k r is2 (leads ∙ ap Host same)) };
    })
    ∙ ap (λ (l : List (HostKey × HostRow)). record (view_of raw) { host = l })
    (ap (gathered host_cmp (λ (h : HostKey × HostRow). h)) (entries-rows (without nat_cmp slot entries))
    ∙ gathered-without nat_cmp nat_order host_cmp host_order (λ (h : HostKey × HostRow). h) slot host entries there chip.keys.host_keys)

-- a group in a free slot: nothing led there
pub view-put_group : (raw s : Tables) (slot : ℕ) (row : List Member) (keys : List HostKey) (marks : List Bool) → IsConsistent raw → IsUnusedGroup raw slot → at nat_cmp slot raw.group ≡ None → keys_of raw.host row ≡ keys → marks_of row ≡ marks → at group_cmp keys (view_of raw).group ≡ None → s ≡ record raw { group = put nat_cmp slot row raw.group } → view_of s ≡ record (view_of raw) { group = put group_cmp keys marks (view_of raw).group }
view-put_group raw s slot row keys marks chip unused free named marked absent is =
    let entry = group_entry raw.host in
    ap view_of is
    ∙ view-groups raw (put nat_cmp slot row raw.group) chip (record { each = λ k r there q leads. ap (option_map (keys_of raw.host)) (at-put_other nat_cmp nat_order q slot row raw.group (λ same. unused.each k r there (leads ∙ ap Group same))) })
    ∙ ap (λ (l : List (List HostKey × List Bool)). record (view_of raw) { group = l })
    (gathered-put nat_cmp nat_order group_cmp group_order entry slot row raw.group free (key_of-gathered_none nat_cmp nat_order group_cmp group_order entry (keys_of raw.host row) raw.group (ap (λ (l : List HostKey). at group_cmp l (view_of raw).group) named ∙ absent))
    ∙ ap (λ (l : List HostKey). put group_cmp l (marks_of row) (view_of raw).group) named ∙ ap (λ (l : List Bool). put group_cmp keys l (view_of raw).group) marked)

-- other marks of a group
pub view-set_group : (raw s : Tables) (slot : ℕ) (old row : List Member) (keys : List HostKey) (marks : List Bool) → IsConsistent raw → at nat_cmp slot raw.group ≡ Some old → keys_of raw.host old ≡ keys → keys_of raw.host row ≡ keys → marks_of row ≡ marks → s ≡ record raw { group = put nat_cmp slot row raw.group } → view_of s ≡ record (view_of raw) { group = put group_cmp keys marks (view_of raw).group }
view-set_group raw s slot old row keys marks chip there old_named named marked is =
    let entry = group_entry raw.host in
    ap view_of is
    ∙ view-groups raw (put nat_cmp slot row raw.group) chip (record { each = λ k r is2 q leads. stays q })
    ∙ ap (λ (l : List (List HostKey × List Bool)). record (view_of raw) { group = l })
    (gathered-set nat_cmp nat_order group_cmp group_order entry slot old row raw.group there (named ∙ sym old_named) (distinct-keys raw chip)
    ∙ ap (λ (l : List HostKey). put group_cmp l (marks_of row) (view_of raw).group) named ∙ ap (λ (l : List Bool). put group_cmp keys l (view_of raw).group) marked)
  where
    stays : (q : ℕ) → option_map (keys_of raw.host) (at nat_cmp q (put nat_cmp slot row raw.group)) ≡ option_map (keys_of raw.host) (at nat_cmp q raw.group)
    stays q = elim (decide nat_cmp nat_order q slot) [
      | inl same ↦ subst (λ (x : ℕ). option_map (keys_of raw.host) (at nat_cmp x (put nat_cmp slot row raw.group)) ≡ option_map (keys_of raw.host) (at nat_cmp x raw.group)) (sym same)
          (ap (option_map (keys_of raw.host)) (at-put nat_cmp nat_order slot row raw.group) ∙ ap Some (named ∙ sym old_named) ∙ sym (ap (option_map (keys_of raw.host)) there))
      | inr other ↦ ap (option_map (keys_of raw.host)) (at-put_other nat_cmp nat_order q slot row raw.group other)
    ]

-- a group less, to which nothing leads
pub view-without_group : (raw s : Tables) (slot : ℕ) (old : List Member) (keys : List HostKey) → IsConsistent raw → IsUnusedGroup raw slot → at nat_cmp slot raw.group ≡ Some old → keys_of raw.host old ≡ keys → s ≡ record raw { group = without nat_cmp slot raw.group } → view_of s ≡ record (view_of raw) { group = without group_cmp keys (view_of raw).group }
view-without_group raw s slot old keys chip unused there named is =
    ap view_of is
    ∙ view-groups raw (without nat_cmp slot raw.group) chip (record { each = λ k r is2 q leads. ap (option_map (keys_of raw.host)) (at-without_other nat_cmp nat_order q slot raw.group chip.keys.group (λ same. unused.each k r is2 (leads ∙ ap Group same))) })
    ∙ ap (λ (l : List (List HostKey × List Bool)). record (view_of raw) { group = l })
    (gathered-without nat_cmp nat_order group_cmp group_order (group_entry raw.host) slot old raw.group there (distinct-keys raw chip)
    ∙ ap (λ (l : List HostKey). without group_cmp l (view_of raw).group) named)

-- a route more
pub view-put_route : (raw s : Tables) (key : RouteKey) (row : RouteRow) (target : HopTarget) → target_of raw row ≡ target → s ≡ record raw { route = put route_cmp key row raw.route } → view_of s ≡ record (view_of raw) { route = put route_cmp key target (view_of raw).route }
view-put_route raw s key row target leads is =
    ap view_of is
    ∙ view-routes raw (put route_cmp key row raw.route)
    ∙ ap (λ (l : List (RouteKey × HopTarget)). record (view_of raw) { route = l }) (with_values-put route_cmp route_order (target_of raw) key row raw.route ∙ ap (λ (t : HopTarget). put route_cmp key t (view_of raw).route) leads)

-- a route less
pub view-without_route : (raw s : Tables) (key : RouteKey) → s ≡ record raw { route = without route_cmp key raw.route } → view_of s ≡ record (view_of raw) { route = without route_cmp key (view_of raw).route }
view-without_route raw s key is =
    ap view_of is
    ∙ view-routes raw (without route_cmp key raw.route)
    ∙ ap (λ (l : List (RouteKey × HopTarget)). record (view_of raw) { route = l }) (with_values-without route_cmp route_order (target_of raw) key raw.route)

-- the view has as many rows as the tables
pub record IsCounted (raw : Tables) : Type 0 where
  pub host : length (view_of raw).host ≡ length raw.host
  pub group : length (view_of raw).group ≡ length raw.group
  pub route : length (view_of raw).route ≡ length raw.route

pub counted : (raw : Tables) → IsConsistent raw → IsCounted raw
counted raw chip = record {
  host = length-gathered_distinct nat_cmp nat_order host_cmp host_order (λ (h : HostKey × HostRow). h) (host_entries raw.host) chip.keys.host_keys ∙ length-map raw.host (λ h. (h.0, (h.1, h.2)));
  group = length-gathered_distinct nat_cmp nat_order group_cmp group_order (group_entry raw.host) raw.group (distinct-keys raw chip);
  route = length-with_values (target_of raw) raw.route;
}
