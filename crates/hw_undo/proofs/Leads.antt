-- What leads to hosts and groups, by slots and by keys.
use Rattle.std.proofs.Common.{◌≡◌, ◌≤◌, ℕ, Bool, List, ◌∷◌, All, Option, None, Some, IsSome, length, get_or, refl, sym, ap, ◌∙◌, subst, arith}
use Rattle.std.specs.Option.{option_map, option_map_or}
use Rattle.std.specs.Ordering.{nat_cmp}
use Rattle.keyed.specs.Keyed.{at, without, Ascends}
use Rattle.std.proofs.lemmas.List.{length-map}
use Rattle.keyed.specs.KeyOrders.{nat_order}
use Rattle.keyed.specs.KeyedLaws.{at-with_values, at-without}
use Rattle.keyed.specs.EachLaws.{named-at}
use Rattle.keyed.specs.NamedLaws.{key_of-at}
use Rattle.net_types.specs.Groups.{group_key_cmp, group_key_of, group_key_order}
use Rattle.net_types.specs.KeyOrder.{group_cmp, group_order, host_cmp, host_order, route_cmp, route_order}
use Rattle.net_types.specs.Rows.{Rows}
use Rattle.net_types.specs.declared.group.Member.{Member}
use Rattle.net_types.specs.declared.table.HopTarget.{HopTarget}
use Rattle.net_types.specs.declared.table.HopTarget.TheVariants.{Host as HopHost, Group as HopGroup, ToCpu as HopCpu, Discard as HopDiscard}
use Rattle.net_types.specs.declared.table.HostKey.{HostKey}
use Rattle.net_types.specs.declared.table.HostRow.{HostRow}
use Rattle.net_types.specs.declared.table.RouteKey.{RouteKey}
use Rattle.net_types.specs.declared.table.RouteRow.{RouteRow}
use Rattle.net_types.specs.declared.table.RouteRow.TheVariants.{Host, Group, ToCpu, Discard}
use Rattle.net_types.specs.declared.table.Tables.{Tables}
use Rattle.chip_core.specs.ChangeLists.{Change, IsAscending}
use Rattle.net_types.specs.Closed.{IsClosed, IsTargetKnown}
use Rattle.chip_core.specs.Changes.{adds, remove_one, removes}
use Rattle.chip_core.specs.Chip.{IsConsistent, key_in, keys_of, marks_of, target_of, view_of}
use Rattle.chip_core.specs.References.{IsRouteHeld, IsUnusedGroup, IsUnusedHost}
use Rattle.chip_core.specs.Slots.{group_slot_of, host_at, host_entries, hosts_of, slot_of}
use Rattle.hw_undo.specs.Undo.{GroupChanges, IsListed}
use Rattle.hw_undo.specs.Targets.{LeadsTo}
use Rattle.hw_undo.proofs.Undoing.{held-route}
use Rattle.hw_undo.proofs.ChangeLaws.{ascends-remove, at-adds_first, there-remove, there-removes}
use Rattle.chip_core.specs.GatheredLaws.{at-gathered, at-gathered_none, found-gathered, key_of-gathered_none}
use Rattle.chip_core.specs.ListLaws.{none-some, some, some-is, some-none, some-value}
use Rattle.chip_core.specs.MemberSlots.{AreSlotsOf, distinct-keys, key-of_member, keys-slots, member-of_key, slots-keys, slots-length, slots-told}
use Rattle.chip_core.specs.ViewLaws.{group-seen, group_entry, key-seen, sorted-view}

-- a host that the view has stands in the slot that is found
pub host-missed : (raw : Tables) (key : HostKey) → IsSome (at host_cmp key (view_of raw).host) → slot_of key raw.host ≡ None → ⊥
host-missed raw key there none = some-none (at host_cmp key (view_of raw).host) there (at-gathered_none nat_cmp nat_order host_cmp host_order (λ (h : HostKey × HostRow). h) key (host_entries raw.host) none)

pub host-found : (raw : Tables) (key : HostKey) (slot : ℕ) → IsConsistent raw → slot_of key raw.host ≡ Some slot → host_at slot raw.host ≡ option_map (λ row. (key, row)) (at host_cmp key (view_of raw).host)
host-found raw key slot chip found =
    let there = named-at nat_cmp nat_order host_cmp host_order (λ (h : HostKey × HostRow). h.0) key slot (host_entries raw.host) chip.keys.host found in
    let seen : at host_cmp there.0.0 (view_of raw).host ≡ Some there.0.1 = at-gathered nat_cmp nat_order host_cmp host_order (λ (h : HostKey × HostRow). h) slot there.0 (host_entries raw.host) chip.keys.host_keys there.1.0 in
    let under_key : at host_cmp key (view_of raw).host ≡ Some there.0.1 = subst (λ (k : HostKey). at host_cmp k (view_of raw).host ≡ Some there.0.1) there.1.1 seen in
    there.1.0 ∙ ap (λ (k : HostKey). Some (k, there.0.1)) there.1.1 ∙ sym (ap (option_map (λ row. (key, row))) under_key)

-- the row in the slot that was found
pub host-there : (raw : Tables) (key : HostKey) (slot : ℕ) → IsSome (at host_cmp key (view_of raw).host) → host_at slot raw.host ≡ option_map (λ row. (key, row)) (at host_cmp key (view_of raw).host) → (row : HostRow) × (host_at slot raw.host ≡ Some (key, row))
host-there raw key slot there is =
    let row = some-value (at host_cmp key (view_of raw).host) there in
    (row.0, is ∙ ap (option_map (λ row. (key, row))) row.1)

pub host-absent : (raw : Tables) (key : HostKey) → at host_cmp key (view_of raw).host ≡ None → slot_of key raw.host ≡ None
host-absent raw key absent = key_of-gathered_none nat_cmp nat_order host_cmp host_order (λ (h : HostKey × HostRow). h) key (host_entries raw.host) absent

-- the row that a set hands back
pub host-replaced : (o : Option (HostKey × HostRow)) (key : HostKey) (row old : HostRow) → o ≡ Some (key, row) → option_map (λ h. h.1) o ≡ Some old → o ≡ Some (key, old)
host-replaced o key row old is replaced = is ∙ ap (λ (r : HostRow). Some (key, r)) (some-is (sym (ap (option_map (λ (h : HostKey × HostRow). h.1)) is) ∙ replaced))

pub route-seen : (raw : Tables) (key : RouteKey) (row : RouteRow) → at route_cmp key raw.route ≡ Some row → at route_cmp key (view_of raw).route ≡ Some (target_of raw row)
route-seen raw key row there = at-with_values route_cmp route_order (target_of raw) key raw.route ∙ ap (option_map (target_of raw)) there

pub group-absent : (raw : Tables) (row : List Member) (keys : List HostKey) → IsConsistent raw → AreSlotsOf raw.host (hosts_of row) keys → at group_cmp keys (view_of raw).group ≡ None → group_slot_of (group_key_of row) raw.group ≡ None
group-absent raw row keys chip slots absent = missed (group_slot_of (group_key_of row) raw.group) refl
  where
    missed : (o : Option ℕ) → group_slot_of (group_key_of row) raw.group ≡ o → group_slot_of (group_key_of row) raw.group ≡ None
    missed None is = is
    missed (Some slot) is =
        let there = named-at nat_cmp nat_order group_key_cmp group_key_order group_key_of (hosts_of row) slot raw.group chip.keys.group is in
        let named : keys_of raw.host there.0 ≡ keys = keys-slots raw.host there.0 keys (subst (λ (l : List ℕ). AreSlotsOf raw.host l keys) (sym there.1.1) slots) in
        let seen : at group_cmp keys (view_of raw).group ≡ Some (marks_of there.0) = subst (λ (l : List HostKey). at group_cmp l (view_of raw).group ≡ Some (marks_of there.0)) named (group-seen raw slot there.0 chip there.1.0) in
        absurd (none-some (sym absent ∙ seen))

-- the slot of a group that the view has
pub group-missed : (raw : Tables) (keys : List HostKey) (slots : List ℕ) → IsConsistent raw → IsSome (at group_cmp keys (view_of raw).group) → AreSlotsOf raw.host slots keys → group_slot_of slots raw.group ≡ None → ⊥
group-missed raw keys slots chip there is none =
    let marks = some-value (at group_cmp keys (view_of raw).group) there in
    let group = found-gathered nat_cmp nat_order group_cmp group_order (group_entry raw.host) keys marks.0 raw.group chip.keys.group marks.1 in
    let own : AreSlotsOf raw.host (hosts_of group.value) keys = subst (AreSlotsOf raw.host (hosts_of group.value)) group.named (slots-keys raw.host group.value (chip.links.members.each group.key group.value group.there)) in
    let same : hosts_of group.value ≡ slots = slots-told raw.host (hosts_of group.value) slots keys chip.keys.host_keys own is in
    let found : group_slot_of slots raw.group ≡ Some group.key = ap (λ (l : List ℕ). group_slot_of l raw.group) (sym same) ∙ key_of-at nat_cmp nat_order group_key_cmp group_key_order group_key_of group.key group.value raw.group chip.keys.group_keys group.there in
    none-some (sym none ∙ found)

pub group-found : (raw : Tables) (slots : List ℕ) (slot : ℕ) → IsConsistent raw → group_slot_of slots raw.group ≡ Some slot → option_map group_key_of (at nat_cmp slot raw.group) ≡ Some slots
group-found raw slots slot chip found =
    let there = named-at nat_cmp nat_order group_key_cmp group_key_order group_key_of slots slot raw.group chip.keys.group found in
    ap (option_map group_key_of) there.1.0 ∙ ap Some there.1.1

-- the members in the slot that was found
pub record IsGroupThere (raw : Tables) (keys : List HostKey) (slots : List ℕ) (slot : ℕ) : Type 0 where
  pub members : List Member
  pub there : at nat_cmp slot raw.group ≡ Some members
  pub hosts : hosts_of members ≡ slots
  pub named : keys_of raw.host members ≡ keys

pub group-there : (raw : Tables) (keys : List HostKey) (slots : List ℕ) (slot : ℕ) → AreSlotsOf raw.host slots keys → option_map group_key_of (at nat_cmp slot raw.group) ≡ Some slots → IsGroupThere raw keys slots slot
group-there raw keys slots slot own is = there (at nat_cmp slot raw.group) refl is
  where
    there : (o : Option (List Member)) → at nat_cmp slot raw.group ≡ o → option_map group_key_of o ≡ Some slots → IsGroupThere raw keys slots slot
    there None held named = absurd (none-some named)
    there (Some members) held named = record {
      members = members;
      there = held;
      hosts = some-is named;
      named = keys-slots raw.host members keys (subst (λ (l : List ℕ). AreSlotsOf raw.host l keys) (sym (some-is named)) own);
    }

-- where the rows without a host are closed, nothing leads to its slot
pub host-unused : (raw : Tables) (slot : ℕ) (key : HostKey) (row : HostRow) → IsConsistent raw → host_at slot raw.host ≡ Some (key, row) → IsClosed (record (view_of raw) { host = without host_cmp key (view_of raw).host }) → IsUnusedHost raw slot
host-unused raw slot key row chip there closed =
    let gone : IsSome (at host_cmp key (without host_cmp key (view_of raw).host)) → ⊥ = λ known. some-none _ known (at-without host_cmp host_order key (view_of raw).host (sorted-view raw chip).host) in
    let named : key_in raw.host slot ≡ Some key = ap (option_map (λ (h : HostKey × HostRow). h.0)) there in
    record {
      group = record {
        each = λ k members held i d lt same.
            let known = member-of_key (λ key2. IsSome (at host_cmp key2 (without host_cmp key (view_of raw).host))) raw.host members (keys_of raw.host members)
            (slots-keys raw.host members (chip.links.members.each k members held))
            (closed.group (keys_of raw.host members) (marks_of members) (group-seen raw k members chip held)) in
            gone (known i d lt key (ap (key_in raw.host) same ∙ named));
      };
      route = record {
        each = λ k r held leads.
            let target : target_of raw r ≡ HopHost key = ap (target_of raw) leads ∙ ap (λ (o : Option HostKey). option_map_or HopHost o HopDiscard) named in
            gone (subst (IsTargetKnown (record (view_of raw) { host = without host_cmp key (view_of raw).host })) target (closed.route.each k (target_of raw r) (route-seen raw k r held)));
      };
    }

-- and so for a group
pub group-unused : (raw : Tables) (slot : ℕ) (members : List Member) (keys : List HostKey) → IsConsistent raw → at nat_cmp slot raw.group ≡ Some members → keys_of raw.host members ≡ keys → IsClosed (record (view_of raw) { group = without group_cmp keys (view_of raw).group }) → IsUnusedGroup raw slot
group-unused raw slot members keys chip there named closed =
    let gone : IsSome (at group_cmp keys (without group_cmp keys (view_of raw).group)) → ⊥ = λ known. some-none _ known (at-without group_cmp group_order keys (view_of raw).group (sorted-view raw chip).group) in
    record {
      each = λ k r held leads.
          let target : target_of raw r ≡ HopGroup keys = ap (target_of raw) leads ∙ ap (λ (o : Option (List Member)). option_map_or (λ members. HopGroup (keys_of raw.host members)) o HopDiscard) there ∙ ap HopGroup named in
          gone (subst (IsTargetKnown (record (view_of raw) { group = without group_cmp keys (view_of raw).group })) target (closed.route.each k (target_of raw r) (route-seen raw k r held)));
    }

target-known : (raw : Tables) (row : RouteRow) → IsConsistent raw → IsRouteHeld raw row → IsTargetKnown (view_of raw) (target_of raw row)
target-known raw (Host slot) chip held = known (host_at slot raw.host) refl held
  where
    known : (o : Option (HostKey × HostRow)) → host_at slot raw.host ≡ o → IsSome o → IsTargetKnown (view_of raw) (target_of raw (Host slot))
    known None there is = absurd (cc)
    known (Some h) there is =
        let named : key_in raw.host slot ≡ Some h.0 = ap (option_map (λ (h : HostKey × HostRow). h.0)) there in
        subst (λ (o : Option HostKey). IsTargetKnown (view_of raw) (option_map_or HopHost o HopDiscard)) (sym named) (key-seen raw slot h.0 chip named)
target-known raw (Group slot) chip held = known (at nat_cmp slot raw.group) refl held
  where
    known : (o : Option (List Member)) → at nat_cmp slot raw.group ≡ o → IsSome o → IsTargetKnown (view_of raw) (target_of raw (Group slot))
    known None there is = absurd (cc)
    known (Some members) there is = subst (λ (o : Option (List Member)). IsTargetKnown (view_of raw) (option_map_or (λ members. HopGroup (keys_of raw.host members)) o HopDiscard)) (sym there) (some _ (marks_of members) (group-seen raw slot members chip there))
target-known raw ToCpu chip held = tt
target-known raw Discard chip held = tt

option-from : {A B : Type 0} (f : A → B) (o : Option A) (b : B) → option_map f o ≡ Some b → (a : A) × ((o ≡ Some a) × (f a ≡ b))
option-from f None b is = absurd (none-some is)
option-from f (Some a) b is = (a, (refl, some-is is))

-- a chip's own view is closed
pub closed-view : (raw : Tables) → IsConsistent raw → IsClosed (view_of raw)
closed-view raw chip = record {
  group = λ keys marks there.
      let group = found-gathered nat_cmp nat_order group_cmp group_order (group_entry raw.host) keys marks raw.group chip.keys.group there in
      let own : AreSlotsOf raw.host (hosts_of group.value) keys = subst (AreSlotsOf raw.host (hosts_of group.value)) group.named (slots-keys raw.host group.value (chip.links.members.each group.key group.value group.there)) in
      key-of_member (λ key. IsSome (at host_cmp key (view_of raw).host)) raw.host group.value keys own (λ i d lt key named. key-seen raw (get_or group.value i d).host key chip named);
  route = record {
    each = λ k target there.
        let row = option-from (target_of raw) (at route_cmp k raw.route) target (sym (at-with_values route_cmp route_order (target_of raw) k raw.route) ∙ there) in
        subst (IsTargetKnown (view_of raw)) row.1.1 (target-known raw row.0 chip (chip.links.routes.each k row.0 row.1.0));
  };
}

-- rows with more hosts are closed too
pub closed-more_hosts : (rows : Rows) (more : List (HostKey × HostRow)) → ((key : HostKey) → IsSome (at host_cmp key rows.host) → IsSome (at host_cmp key more)) → IsClosed rows → IsClosed (record rows { host = more })
closed-more_hosts rows more within closed = record {
  group = λ keys marks there i d lt. within (get_or keys i d) (closed.group keys marks there i d lt);
  route = record { each = λ k target there. known target (closed.route.each k target there) };
}
  where
    known : (target : HopTarget) → IsTargetKnown rows target → IsTargetKnown (record rows { host = more }) target
    known (HopHost key) is = within key is
    known (HopGroup keys) is = is
    known HopCpu is = tt
    known HopDiscard is = tt

-- on the way to closed rows, each step of a loop has closed rows ahead
module _ (before goal : Rows) where
  pub closed-remove_host : (rest next : List (Change HostKey HostRow)) (c : Change HostKey HostRow) → rest ≡ c ∷ next → record before { host = removes host_cmp rest before.host } ≡ goal → IsClosed goal → Ascends host_cmp before.host → IsClosed (record before { host = remove_one host_cmp c.0 c.2 before.host })
  closed-remove_host rest next c is whole closed sorted =
      let left = remove_one host_cmp c.0 c.2 before.host in
      let later : record before { host = removes host_cmp next left } ≡ goal = ap (λ (x : List (Change HostKey HostRow)). record before { host = removes host_cmp x before.host }) (sym is) ∙ whole in
      closed-more_hosts (record before { host = removes host_cmp next left }) left
      (λ key there. there-removes host_cmp host_order key next left (ascends-remove host_cmp host_order c.0 c.2 before.host sorted) there)
      (subst IsClosed (sym later) closed)

  pub closed-remove_group : (rest next : List (Change (List HostKey) (List Bool))) (c : Change (List HostKey) (List Bool)) → rest ≡ c ∷ next → record before { group = removes group_cmp rest before.group } ≡ goal → IsClosed goal → IsClosed before → Ascends group_cmp before.group → IsClosed (record before { group = remove_one group_cmp c.0 c.2 before.group })
  closed-remove_group rest next c is whole closed own sorted =
      let left = remove_one group_cmp c.0 c.2 before.group in
      let later : record before { group = removes group_cmp next left } ≡ goal = ap (λ (x : List (Change (List HostKey) (List Bool))). record before { group = removes group_cmp x before.group }) (sym is) ∙ whole in
      let ahead : IsClosed (record before { group = removes group_cmp next left }) = subst IsClosed (sym later) closed in
      record {
        group = λ keys marks there.
            let earlier = some-value _ (there-remove group_cmp group_order keys c.0 c.2 before.group sorted (some _ marks there)) in
            own.group keys earlier.0 earlier.1;
        route = record { each = λ k target there. known left (ascends-remove group_cmp group_order c.0 c.2 before.group sorted) target (ahead.route.each k target there) };
      }
    where
      known : (left : List (List HostKey × List Bool)) → Ascends group_cmp left → (target : HopTarget) → IsTargetKnown (record before { group = removes group_cmp next left }) target → IsTargetKnown (record before { group = left }) target
      known left sorted2 (HopHost key) there = there
      known left sorted2 (HopGroup keys) there = there-removes group_cmp group_order keys next left sorted2 there
      known left sorted2 HopCpu there = tt
      known left sorted2 HopDiscard there = tt

  -- the hosts of a new group, and what a new route leads to, are there
  pub known-new_group : (rest next : List (Change (List HostKey) (List Bool))) (c : Change (List HostKey) (List Bool)) → rest ≡ c ∷ next → record before { group = adds group_cmp rest before.group } ≡ goal → IsClosed goal → IsAscending group_cmp rest → IsSome c.2 → All (λ key. IsSome (at host_cmp key before.host)) c.0
  known-new_group rest next c is whole closed ascending new =
      let marks = some-value c.2 new in
      let ahead : IsClosed (record before { group = adds group_cmp rest before.group }) = subst IsClosed (sym whole) closed in
      ahead.group c.0 marks.0 (at-adds_first group_cmp group_order rest next c marks.0 before.group is ascending marks.1)

  pub known-new_route : (rest next : List (Change RouteKey HopTarget)) (c : Change RouteKey HopTarget) → rest ≡ c ∷ next → record before { route = adds route_cmp rest before.route } ≡ goal → IsClosed goal → IsAscending route_cmp rest → (target : HopTarget) → c.2 ≡ Some target → IsTargetKnown before target
  known-new_route rest next c is whole closed ascending target new =
      let ahead : IsClosed (record before { route = adds route_cmp rest before.route }) = subst IsClosed (sym whole) closed in
      known target (ahead.route.each c.0 target (at-adds_first route_cmp route_order rest next c target before.route is ascending new))
    where
      known : (target : HopTarget) → IsTargetKnown (record before { route = adds route_cmp rest before.route }) target → IsTargetKnown before target
      known (HopHost key) there = there
      known (HopGroup keys) there = there
      known HopCpu there = tt
      known HopDiscard there = tt

pub route-there : (raw : Tables) (key : RouteKey) (target : HopTarget) → at route_cmp key (view_of raw).route ≡ Some target → IsSome (at route_cmp key raw.route)
route-there raw key target is =
    let row = option-from (target_of raw) (at route_cmp key raw.route) target (sym (at-with_values route_cmp route_order (target_of raw) key raw.route) ∙ is) in
    some _ row.0 row.1.0

pub route-absent : (raw : Tables) (key : RouteKey) → at route_cmp key (view_of raw).route ≡ None → at route_cmp key raw.route ≡ None
route-absent raw key none = absent (at route_cmp key raw.route) (sym (at-with_values route_cmp route_order (target_of raw) key raw.route) ∙ none)
  where
    absent : (o : Option RouteRow) → option_map (target_of raw) o ≡ None → o ≡ None
    absent None is = refl
    absent (Some row) is = absurd (cc)

-- a group that the view has is of at most 64 hosts
pub group-few : (raw : Tables) (keys : List HostKey) → IsConsistent raw → IsSome (at group_cmp keys (view_of raw).group) → length keys ≤ 64
group-few raw keys chip there =
    let marks = some-value (at group_cmp keys (view_of raw).group) there in
    let group = found-gathered nat_cmp nat_order group_cmp group_order (group_entry raw.host) keys marks.0 raw.group chip.keys.group marks.1 in
    let own : AreSlotsOf raw.host (hosts_of group.value) keys = subst (AreSlotsOf raw.host (hosts_of group.value)) group.named (slots-keys raw.host group.value (chip.links.members.each group.key group.value group.there)) in
    let long = chip.links.lengths.each group.key group.value group.there in
    omega (arith, slots-length raw.host (hosts_of group.value) keys own, length-map group.value (λ (m : Member). m.host), long.1)

-- what the row that leads to a target leads to
pub target-host : (raw : Tables) (slot : ℕ) (key : HostKey) (row : HostRow) → host_at slot raw.host ≡ Some (key, row) → target_of raw (Host slot) ≡ HopHost key
target-host raw slot key row there = ap (λ (o : Option (HostKey × HostRow)). option_map_or HopHost (option_map (λ (h : HostKey × HostRow). h.0) o) HopDiscard) there

pub target-group : (raw : Tables) (slot : ℕ) (members : List Member) (keys : List HostKey) → at nat_cmp slot raw.group ≡ Some members → keys_of raw.host members ≡ keys → target_of raw (Group slot) ≡ HopGroup keys
target-group raw slot members keys there named = ap (λ (o : Option (List Member)). option_map_or (λ members. HopGroup (keys_of raw.host members)) o HopDiscard) there ∙ ap HopGroup named

-- a group that is listed with the row that the view has is listed with the marks of its members
pub listed-as : (raw : Tables) (slot : ℕ) (members : List Member) (keys : List HostKey) → IsConsistent raw → at nat_cmp slot raw.group ≡ Some members → keys_of raw.host members ≡ keys → (groups : GroupChanges) (place : ℕ) → IsListed groups place keys (at group_cmp keys (view_of raw).group) → IsListed groups place keys (Some (marks_of members))
listed-as raw slot members keys chip there named groups place listed =
    let seen : at group_cmp keys (view_of raw).group ≡ Some (marks_of members) = subst (λ (k : List HostKey). at group_cmp k (view_of raw).group ≡ Some (marks_of members)) named (group-seen raw slot members chip there) in
    subst (IsListed groups place keys) seen listed

-- a row leads where it led, whatever routes there are
pub leads-kept : (raw s : Tables) (routes : List (RouteKey × RouteRow)) (row : RouteRow) (target : HopTarget) → s ≡ record raw { route = routes } → LeadsTo raw row target → LeadsTo s row target
leads-kept raw s routes row target is leads = subst (λ (x : Tables). LeadsTo x row target) (sym is) (record { is = same row ∙ leads.is; held = held-route raw routes row leads.held })
  where
    same : (r : RouteRow) → target_of (record raw { route = routes }) r ≡ target_of raw r
    same (Host slot) = refl
    same (Group slot) = refl
    same ToCpu = refl
    same Discard = refl
