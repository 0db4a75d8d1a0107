-- Each write can be undone, and that gives the tables from before it.
use Rattle.std.proofs.Common.{◌≡◌, ℕ, Bool, List, [], ◌∷◌, Option, None, Some, IsSome, get_or, length, refl, sym, ap, ◌∙◌, subst, arith, inl, inr}
use Rattle.std.specs.Option.{option_map, option_map_or, unwrap_or}
use Rattle.std.proofs.lemmas.List.{length-map}
use Rattle.std.specs.Ordering.{nat_cmp}
use Rattle.keyed.specs.Keyed.{at, put, without, Ascends}
use Rattle.keyed.specs.KeyOrders.{nat_order}
use Rattle.keyed.specs.Named.{AreDistinct}
use Rattle.keyed.specs.KeyedLaws.{decide, without-put, put-put, put-without, at-put, at-put_other, at-without, length-without}
use Rattle.net_types.specs.Groups.{IsGroupLength, group_key_of}
use Rattle.net_types.specs.KeyOrder.{host_cmp, l2_cmp, l2_order, route_cmp, route_order}
use Rattle.net_types.specs.declared.group.Member.{Member}
use Rattle.net_types.specs.declared.table.Caps.{Caps}
use Rattle.net_types.specs.declared.table.HostKey.{HostKey}
use Rattle.net_types.specs.declared.table.HostRow.{HostRow}
use Rattle.net_types.specs.declared.table.L2Key.{L2Key}
use Rattle.net_types.specs.declared.table.L2Row.{L2Row}
use Rattle.net_types.specs.declared.table.RouteKey.{RouteKey}
use Rattle.net_types.specs.declared.table.RouteRow.{RouteRow}
use Rattle.net_types.specs.declared.table.RouteRow.TheVariants.{Host, Group, ToCpu, Discard}
use Rattle.net_types.specs.declared.table.Tables.{Tables}
use Rattle.chip_core.specs.ChangeLists.{Change}
use Rattle.chip_core.specs.Chip.{IsChip, IsConsistent, key_in, keys_of, marks_of, view_of}
use Rattle.chip_core.specs.ViewLaws.{key-seen}
use Rattle.chip_core.specs.ChipLaws.{IsGroupRoom, host-gone, group-gone}
use Rattle.chip_core.specs.MemberSlots.{AreSlotsOf, key-of_member, no-keys, no-slots, slot-told, slots-head, slots-keys, slots-length, slots-rest}
use Rattle.chip_core.specs.References.{IsHost, IsRouteHeld, IsUnusedHost, IsUnusedGroup}
use Rattle.chip_core.specs.ListLaws.{some, some-none}
use Rattle.chip_core.specs.Slots.{Hosts, Groups, host_at, host_entries, host_rows, hosts_of, put_host, set_host, slot_of, without_host}
use Rattle.chip_core.specs.SlotsLaws.{Entries, entries-rows, rows-entries, host_at-rows, put_host-rows, without_host-rows, set_host-rows}
use Rattle.hw_undo.specs.Undo.{GroupChanges, HasOldMembers, IsListed, members_with, old_members}
use Rattle.hw_undo.specs.declared.write.Write.TheVariants.{AddedL2, SetL2, RemovedL2, AddedHost, SetHost, RemovedHost, AddedGroup, SetGroup, RemovedGroup, AddedRoute, RemovedRoute}
use Rattle.hw_undo.proofs.RollBack.{Undoes}

-- l2
pub undoes-removed_l2 : (groups : GroupChanges) (caps : Caps) (r s : Tables) (key : L2Key) (row : L2Row) → IsChip caps r → s ≡ record r { l2 = without l2_cmp key r.l2 } → at l2_cmp key r.l2 ≡ Some row → Undoes groups caps (RemovedL2 key row) s r
undoes-removed_l2 groups caps r s key row chip is old =
    let known : Undoes groups caps (RemovedL2 key row) (record r { l2 = without l2_cmp key r.l2 }) r = record {
      undoable = (at-without l2_cmp l2_order key r.l2 chip.rows.keys.l2, omega (arith, length-without l2_cmp l2_order key row r.l2 old, chip.within.l2));
      is = ap (λ (l : List (L2Key × L2Row)). record r { l2 = l }) (put-without l2_cmp l2_order key row r.l2 chip.rows.keys.l2 old);
    } in
    subst (λ (x : Tables). Undoes groups caps (RemovedL2 key row) x r) (sym is) known

pub undoes-set_l2 : (groups : GroupChanges) (caps : Caps) (r s : Tables) (key : L2Key) (row new : L2Row) → s ≡ record r { l2 = put l2_cmp key new r.l2 } → at l2_cmp key r.l2 ≡ Some row → Undoes groups caps (SetL2 key row) s r
undoes-set_l2 groups caps r s key row new is old =
    let known : Undoes groups caps (SetL2 key row) (record r { l2 = put l2_cmp key new r.l2 }) r = record {
      undoable = some _ new (at-put l2_cmp l2_order key new r.l2);
      is = ap (λ (l : List (L2Key × L2Row)). record r { l2 = l }) (put-put l2_cmp l2_order key row new r.l2 old);
    } in
    subst (λ (x : Tables). Undoes groups caps (SetL2 key row) x r) (sym is) known

pub undoes-added_l2 : (groups : GroupChanges) (caps : Caps) (r s : Tables) (key : L2Key) (row : L2Row) → s ≡ record r { l2 = put l2_cmp key row r.l2 } → at l2_cmp key r.l2 ≡ None → Undoes groups caps (AddedL2 key) s r
undoes-added_l2 groups caps r s key row is none =
    let known : Undoes groups caps (AddedL2 key) (record r { l2 = put l2_cmp key row r.l2 }) r = record {
      undoable = some _ row (at-put l2_cmp l2_order key row r.l2);
      is = ap (λ (l : List (L2Key × L2Row)). record r { l2 = l }) (without-put l2_cmp l2_order key row r.l2 none);
    } in
    subst (λ (x : Tables). Undoes groups caps (AddedL2 key) x r) (sym is) known

-- hosts
pub put_host-without : (slot : ℕ) (host : HostKey × HostRow) (hosts : Hosts) (r : Tables) (caps : Caps) → IsChip caps r → hosts ≡ r.host → host_at slot hosts ≡ Some host → put_host slot host.0 host.1 (without_host slot hosts) ≡ hosts
put_host-without slot host hosts r caps chip is there =
    let entries = host_entries hosts in
    let ascends = subst (λ (h : Hosts). Ascends nat_cmp (host_entries h)) (sym is) chip.rows.keys.host in
    put_host-rows slot host.0 host.1 (without nat_cmp slot entries) ∙ ap host_rows (put-without nat_cmp nat_order slot host entries ascends there) ∙ rows-entries hosts

pub undoes-removed_host : (groups : GroupChanges) (caps : Caps) (r s : Tables) (slot : ℕ) (host : HostKey × HostRow) → IsChip caps r → s ≡ record r { host = without_host slot r.host } → host_at slot r.host ≡ Some host → Undoes groups caps (RemovedHost slot host.0 host.1) s r
undoes-removed_host groups caps r s slot host chip is old =
    let known : Undoes groups caps (RemovedHost slot host.0 host.1) (record r { host = without_host slot r.host }) r = record {
      undoable = host-gone caps r slot host chip old;
      is = ap (λ (l : Hosts). record r { host = l }) (put_host-without slot host r.host r caps chip refl old);
    } in
    subst (λ (x : Tables). Undoes groups caps (RemovedHost slot host.0 host.1) x r) (sym is) known

pub set_host-is : (slot : ℕ) (host : HostKey × HostRow) (row : HostRow) (hosts : Hosts) → host_at slot hosts ≡ Some host → set_host slot row hosts ≡ host_rows (put nat_cmp slot (host.0, row) (host_entries hosts))
set_host-is slot host row hosts there = ap (set_host slot row) (sym (rows-entries hosts)) ∙ set_host-rows slot host row (host_entries hosts) there

set_host-at : (slot : ℕ) (host : HostKey × HostRow) (row : HostRow) (hosts : Hosts) → host_at slot hosts ≡ Some host → host_at slot (set_host slot row hosts) ≡ Some (host.0, row)
set_host-at slot host row hosts there =
    let entries : Entries = put nat_cmp slot (host.0, row) (host_entries hosts) in
    ap (host_at slot) (set_host-is slot host row hosts there) ∙ host_at-rows slot entries ∙ at-put nat_cmp nat_order slot (host.0, row) (host_entries hosts)

-- the keys in the slots stay as they are
pub set_host-keys : (slot : ℕ) (host : HostKey × HostRow) (row : HostRow) (hosts : Hosts) → host_at slot hosts ≡ Some host → (q : ℕ) → key_in (set_host slot row hosts) q ≡ key_in hosts q
set_host-keys slot host row hosts there q =
    let name : Option (HostKey × HostRow) → Option HostKey = option_map (λ h. h.0) in
    elim (decide nat_cmp nat_order q slot) [
      | inl same ↦ subst (λ (x : ℕ). key_in (set_host slot row hosts) x ≡ key_in hosts x) (sym same) (ap name (set_host-at slot host row hosts there) ∙ sym (ap name there))
      | inr other ↦ ap name (ap (host_at q) (set_host-is slot host row hosts there) ∙ host_at-rows q (put nat_cmp slot (host.0, row) (host_entries hosts)) ∙ at-put_other nat_cmp nat_order q slot (host.0, row) (host_entries hosts) other)
    ]

-- the old row again
set_host-back : (slot : ℕ) (host : HostKey × HostRow) (row : HostRow) (hosts : Hosts) → host_at slot hosts ≡ Some host → set_host slot host.1 (set_host slot row hosts) ≡ hosts
set_host-back slot host row hosts there =
    let entries : Entries = put nat_cmp slot (host.0, row) (host_entries hosts) in
    set_host-is slot (host.0, row) host.1 (set_host slot row hosts) (set_host-at slot host row hosts there)
    ∙ ap (λ (h : Hosts). host_rows (put nat_cmp slot host (host_entries h))) (set_host-is slot host row hosts there)
    ∙ ap (λ (e : Entries). host_rows (put nat_cmp slot host e)) (entries-rows entries)
    ∙ ap host_rows (put-put nat_cmp nat_order slot host (host.0, row) (host_entries hosts) there)
    ∙ rows-entries hosts

pub undoes-set_host : (groups : GroupChanges) (caps : Caps) (r s : Tables) (slot : ℕ) (host : HostKey × HostRow) (new : HostRow) → s ≡ record r { host = set_host slot new r.host } → host_at slot r.host ≡ Some host → Undoes groups caps (SetHost slot host.1) s r
undoes-set_host groups caps r s slot host new is old =
    let known : Undoes groups caps (SetHost slot host.1) (record r { host = set_host slot new r.host }) r = record {
      undoable = some _ (host.0, new) (set_host-at slot host new r.host old);
      is = ap (λ (l : Hosts). record r { host = l }) (set_host-back slot host new r.host old);
    } in
    subst (λ (x : Tables). Undoes groups caps (SetHost slot host.1) x r) (sym is) known

-- nothing leads to a slot that is free
pub unused-free_host : (caps : Caps) (r : Tables) (slot : ℕ) → IsChip caps r → host_at slot r.host ≡ None → IsUnusedHost r slot
unused-free_host caps r slot chip free = record {
  group = record { each = λ k members there i d lt same. some-none (host_at slot r.host) (subst (λ (n : ℕ). IsHost r n) same (chip.rows.links.members.each k members there i d lt)) free };
  route = record { each = λ k row there same. some-none (host_at slot r.host) (subst (IsRouteHeld r) same (chip.rows.links.routes.each k row there)) free };
}

pub unused-free_group : (caps : Caps) (r : Tables) (slot : ℕ) → IsChip caps r → at nat_cmp slot r.group ≡ None → IsUnusedGroup r slot
unused-free_group caps r slot chip free = record { each = λ k row there same. some-none (at nat_cmp slot r.group) (subst (IsRouteHeld r) same (chip.rows.links.routes.each k row there)) free }

without_host-put : (slot : ℕ) (key : HostKey) (row : HostRow) (hosts : Hosts) → host_at slot hosts ≡ None → without_host slot (put_host slot key row hosts) ≡ hosts
without_host-put slot key row hosts free =
    without_host-rows slot (put nat_cmp slot (key, row) (host_entries hosts)) ∙ ap host_rows (without-put nat_cmp nat_order slot (key, row) (host_entries hosts) free) ∙ rows-entries hosts

pub undoes-added_host : (groups : GroupChanges) (caps : Caps) (r s : Tables) (slot : ℕ) (key : HostKey) (row : HostRow) → IsChip caps r → s ≡ record r { host = put_host slot key row r.host } → host_at slot r.host ≡ None → Undoes groups caps (AddedHost slot) s r
undoes-added_host groups caps r s slot key row chip is free =
    let unused = unused-free_host caps r slot chip free in
    let known : Undoes groups caps (AddedHost slot) (record r { host = put_host slot key row r.host }) r = record {
      undoable = (some _ (key, row) (host_at-rows slot (put nat_cmp slot (key, row) (host_entries r.host)) ∙ at-put nat_cmp nat_order slot (key, row) (host_entries r.host)), record { group = unused.group; route = unused.route });
      is = ap (λ (l : Hosts). record r { host = l }) (without_host-put slot key row r.host free);
    } in
    subst (λ (x : Tables). Undoes groups caps (AddedHost slot) x r) (sym is) known

-- groups
abbrev marked : ℕ → Bool → Member
marked host live = record { host = host; live = live }

-- members are told by their hosts' keys and their marks
pub members-told : (hosts : Hosts) (row : List Member) (keys : List HostKey) → AreDistinct host_cmp (λ h. h.0) (host_entries hosts) → AreSlotsOf hosts (hosts_of row) keys → members_with hosts keys (marks_of row) ≡ row
members-told hosts [] [] distinct own = refl
members-told hosts [] (k ∷ ks) distinct own = absurd (no-slots hosts k ks own)
members-told hosts (m ∷ ms) [] distinct own = absurd (no-keys hosts m.host (hosts_of ms) own)
members-told hosts (m ∷ ms) (k ∷ ks) distinct own =
    let slot : slot_of k hosts ≡ Some m.host = slot-told hosts m.host k distinct (slots-head hosts m.host (hosts_of ms) k ks own) in
    ap (λ (o : Option ℕ). marked (unwrap_or o 0) m.live ∷ members_with hosts ks (marks_of ms)) slot
    ∙ ap (λ (l : List Member). m ∷ l) (members-told hosts ms ks distinct (slots-rest hosts m.host (hosts_of ms) k ks own))

-- a row of the listed hosts and marks is the old row
pub old-told : (groups : GroupChanges) (place : ℕ) (raw : Tables) (row : List Member) (old : HasOldMembers groups place raw) → IsConsistent raw → AreSlotsOf raw.host (hosts_of row) old.keys → marks_of row ≡ old.marks → row ≡ old_members groups place raw.host
old-told groups place raw row old chip own marks = sym (
    ap (λ (o : Option (Change (List HostKey) (List Bool))). option_map_or (λ c. members_with raw.host c.0 (unwrap_or c.1 [])) o []) old.listed.is
    ∙ ap (members_with raw.host old.keys) (sym marks)
    ∙ members-told raw.host row old.keys chip.keys.host_keys own)

-- the old row of a group that is listed with the marks of its members
module _ (groups : GroupChanges) (caps : Caps) (r : Tables) (slot place : ℕ) (keys : List HostKey) (row : List Member) (chip : IsChip caps r) (old : at nat_cmp slot r.group ≡ Some row) (named : keys_of r.host row ≡ keys) (listed : IsListed groups place keys (Some (marks_of row))) where
  own : AreSlotsOf r.host (hosts_of row) keys
  own = subst (AreSlotsOf r.host (hosts_of row)) named (slots-keys r.host row (chip.rows.links.members.each slot row old))

  old-members : old_members groups place r.host ≡ row
  old-members =
      ap (λ (o : Option (Change (List HostKey) (List Bool))). option_map_or (λ c. members_with r.host c.0 (unwrap_or c.1 [])) o []) listed.is
      ∙ members-told r.host row keys chip.rows.keys.host_keys own

  as_many : length keys ≡ length row
  as_many = sym (slots-length r.host (hosts_of row) keys own) ∙ length-map row (λ m. m.host)

  has-old : (groups' : Groups) → HasOldMembers groups place (record r { group = groups' })
  has-old groups' = record {
    keys = keys;
    marks = marks_of row;
    listed = listed;
    long = subst IsGroupLength (sym as_many) (chip.rows.links.lengths.each slot row old);
    marked = length-map row (λ m. m.live) ∙ sym as_many;
    known = key-of_member (λ key. IsSome (at host_cmp key (view_of r).host)) r.host row keys own (λ i d lt key is. key-seen r (get_or row i d).host key chip.rows is);
  }

  pub undoes-removed_group : (s : Tables) → s ≡ record r { group = without nat_cmp slot r.group } → Undoes groups caps (RemovedGroup slot place) s r
  undoes-removed_group s is =
      let gone : Groups = without nat_cmp slot r.group in
      let known : Undoes groups caps (RemovedGroup slot place) (record r { group = gone }) r = record {
        undoable = (has-old gone, subst (λ (m : List Member). IsGroupRoom caps (record r { group = gone }) slot m) (sym old-members) (group-gone caps r slot row chip old));
        is = ap (λ (m : List Member). record r { group = put nat_cmp slot m gone }) old-members ∙ ap (λ (l : Groups). record r { group = l }) (put-without nat_cmp nat_order slot row r.group chip.rows.keys.group old);
      } in
      subst (λ (x : Tables). Undoes groups caps (RemovedGroup slot place) x r) (sym is) known

  pub undoes-set_group : (s : Tables) (new : List Member) → s ≡ record r { group = put nat_cmp slot new r.group } → group_key_of new ≡ group_key_of row → Undoes groups caps (SetGroup slot place) s r
  undoes-set_group s new is same =
      let with_new : Groups = put nat_cmp slot new r.group in
      let known : Undoes groups caps (SetGroup slot place) (record r { group = with_new }) r = record {
        undoable = (has-old with_new, ap (option_map group_key_of) (at-put nat_cmp nat_order slot new r.group) ∙ ap Some (same ∙ ap group_key_of (sym old-members)));
        is = ap (λ (m : List Member). record r { group = put nat_cmp slot m with_new }) old-members ∙ ap (λ (l : Groups). record r { group = l }) (put-put nat_cmp nat_order slot row new r.group old);
      } in
      subst (λ (x : Tables). Undoes groups caps (SetGroup slot place) x r) (sym is) known

pub undoes-added_group : (groups : GroupChanges) (caps : Caps) (r s : Tables) (slot : ℕ) (row : List Member) → IsChip caps r → s ≡ record r { group = put nat_cmp slot row r.group } → at nat_cmp slot r.group ≡ None → Undoes groups caps (AddedGroup slot) s r
undoes-added_group groups caps r s slot row chip is free =
    let unused = unused-free_group caps r slot chip free in
    let known : Undoes groups caps (AddedGroup slot) (record r { group = put nat_cmp slot row r.group }) r = record {
      undoable = (some _ row (at-put nat_cmp nat_order slot row r.group), unused);
      is = ap (λ (l : Groups). record r { group = l }) (without-put nat_cmp nat_order slot row r.group free);
    } in
    subst (λ (x : Tables). Undoes groups caps (AddedGroup slot) x r) (sym is) known

-- routes
pub held-route : (r : Tables) (routes : List (RouteKey × RouteRow)) (row : RouteRow) → IsRouteHeld r row → IsRouteHeld (record r { route = routes }) row
held-route r routes (Host slot) held = held
held-route r routes (Group slot) held = held
held-route r routes ToCpu held = tt
held-route r routes Discard held = tt

pub undoes-removed_route : (groups : GroupChanges) (caps : Caps) (r s : Tables) (key : RouteKey) (row : RouteRow) → IsChip caps r → s ≡ record r { route = without route_cmp key r.route } → at route_cmp key r.route ≡ Some row → Undoes groups caps (RemovedRoute key row) s r
undoes-removed_route groups caps r s key row chip is old =
    let gone : List (RouteKey × RouteRow) = without route_cmp key r.route in
    let known : Undoes groups caps (RemovedRoute key row) (record r { route = gone }) r = record {
      undoable = (at-without route_cmp route_order key r.route chip.rows.keys.route, held-route r gone row (chip.rows.links.routes.each key row old), omega (arith, length-without route_cmp route_order key row r.route old, chip.within.route));
      is = ap (λ (l : List (RouteKey × RouteRow)). record r { route = l }) (put-without route_cmp route_order key row r.route chip.rows.keys.route old);
    } in
    subst (λ (x : Tables). Undoes groups caps (RemovedRoute key row) x r) (sym is) known

pub undoes-added_route : (groups : GroupChanges) (caps : Caps) (r s : Tables) (key : RouteKey) (row : RouteRow) → s ≡ record r { route = put route_cmp key row r.route } → at route_cmp key r.route ≡ None → Undoes groups caps (AddedRoute key) s r
undoes-added_route groups caps r s key row is none =
    let known : Undoes groups caps (AddedRoute key) (record r { route = put route_cmp key row r.route }) r = record {
      undoable = some _ row (at-put route_cmp route_order key row r.route);
      is = ap (λ (l : List (RouteKey × RouteRow)). record r { route = l }) (without-put route_cmp route_order key row r.route none);
    } in
    subst (λ (x : Tables). Undoes groups caps (AddedRoute key) x r) (sym is) known
