-- What a chip's view is: its rows ascend by key, fit the capacities, and tell the chip's groups apart.
use Rattle.std.proofs.Common.{◌≡◌, ℕ, Bool, true, false, nat_eq, List, [], ◌∷◌, None, Some, IsSome, Option, refl, sym, ap, ◌∙◌, subst}
use Rattle.std.specs.List.{AllByRecursion, IsDistinct}
use Rattle.std.specs.Option.{option_map}
use Rattle.std.specs.Ordering.{eq_by_cmp, is_eq, nat_cmp}
use Rattle.std.proofs.lemmas.Bool.{eqb-true}
use Rattle.keyed.specs.Keyed.{at}
use Rattle.keyed.specs.KeyOrders.{nat_order}
use Rattle.keyed.specs.KeyedLaws.{same}
use Rattle.keyed.specs.ValueLaws.{ascends-with_values}
use Rattle.net_types.specs.Capacity.{fillings, over}
use Rattle.net_types.specs.Differ.{AscendRows}
use Rattle.net_types.specs.CapacityLaws.{none-over}
use Rattle.net_types.specs.KeyOrder.{group_cmp, group_order, host_cmp, host_order, route_cmp}
use Rattle.net_types.specs.Rows.{Rows}
use Rattle.net_types.specs.declared.group.Member.{Member}
use Rattle.net_types.specs.declared.table.Caps.{Caps}
use Rattle.net_types.specs.declared.table.HostKey.{HostKey}
use Rattle.net_types.specs.declared.table.HostRow.{HostRow}
use Rattle.net_types.specs.declared.table.Tables.{Tables}
use Rattle.chip_core.specs.Chip.{IsChip, IsConsistent, IsImage, key_in, keys_of, marks_of, target_of, view_of}
use Rattle.chip_core.specs.ChipLaws.{view-within}
use Rattle.chip_core.specs.GatheredLaws.{ascends-gathered, at-gathered}
use Rattle.chip_core.specs.ListLaws.{none-some, some, some-is}
use Rattle.chip_core.specs.MemberSlots.{AreSlotsOf, distinct-keys, no-keys, slots-head, slots-keys, slots-rest}
use Rattle.chip_core.specs.Slots.{Hosts, host_at, host_entries, hosts_of}

-- a group as an entry of the view
abbrev pub group_entry : Hosts → List Member → List HostKey × List Bool
group_entry hosts members = (keys_of hosts members, marks_of members)

-- a chip's view ascends by key
pub sorted-view : (raw : Tables) → IsConsistent raw → AscendRows (view_of raw)
sorted-view raw chip = record {
  l2 = chip.keys.l2;
  host = ascends-gathered nat_cmp nat_order host_cmp host_order (λ (h : HostKey × HostRow). h) (host_entries raw.host);
  group = ascends-gathered nat_cmp nat_order group_cmp group_order (group_entry raw.host) raw.group;
  route = ascends-with_values route_cmp (target_of raw) raw.route chip.keys.route;
}

-- a group with its keys, and marks, in the view
pub group-seen : (raw : Tables) (slot : ℕ) (members : List Member) → IsConsistent raw → at nat_cmp slot raw.group ≡ Some members → at group_cmp (keys_of raw.host members) (view_of raw).group ≡ Some (marks_of members)
group-seen raw slot members chip there = at-gathered nat_cmp nat_order group_cmp group_order (group_entry raw.host) slot members raw.group (distinct-keys raw chip) there

-- a key in a slot is one of the view
pub key-seen : (raw : Tables) (slot : ℕ) (key : HostKey) → IsConsistent raw → key_in raw.host slot ≡ Some key → IsSome (at host_cmp key (view_of raw).host)
key-seen raw slot key chip named = seen (host_at slot raw.host) refl named
  where
    seen : (o : Option (HostKey × HostRow)) → host_at slot raw.host ≡ o → option_map (λ h. h.0) o ≡ Some key → IsSome (at host_cmp key (view_of raw).host)
    seen None there is = absurd (none-some is)
    seen (Some h) there is = subst (λ (k : HostKey). IsSome (at host_cmp k (view_of raw).host)) (some-is is) (some _ h.1 (at-gathered nat_cmp nat_order host_cmp host_order (λ (h : HostKey × HostRow). h) slot h (host_entries raw.host) chip.keys.host_keys there))

-- none of a chip's tables is over its capacity
pub fits-chip : (caps : Caps) (raw : Tables) → IsChip caps raw → over (view_of raw) caps ≡ None
fits-chip caps raw chip =
    let within = view-within caps raw chip in
    none-over (fillings (view_of raw) caps) (within.l2, (within.host, (within.group, (within.route, tt))))

-- members whose hosts' keys differ from a key are in other slots
apart-slots : (hosts : Hosts) (slot : ℕ) (key : HostKey) (ms : List Member) (ks : List HostKey) → key_in hosts slot ≡ Some key → AreSlotsOf hosts (hosts_of ms) ks → AllByRecursion (λ k. eq_by_cmp host_cmp key k ≡ false) ks → AllByRecursion (λ n. nat_eq slot n ≡ false) (hosts_of ms)
apart-slots hosts slot key [] ks named own apart = tt
apart-slots hosts slot key (m ∷ ms) [] named own apart = absurd (no-keys hosts m.host (hosts_of ms) own)
apart-slots hosts slot key (m ∷ ms) (k ∷ ks) named own apart = (other (nat_eq slot m.host) refl, apart-slots hosts slot key ms ks named (slots-rest hosts m.host (hosts_of ms) k ks own) apart.1)
  where
    other : (b : Bool) → nat_eq slot m.host ≡ b → nat_eq slot m.host ≡ false
    other false is = is
    other true is =
        let both : Some key ≡ Some k = sym named ∙ ap (key_in hosts) (eqb-true slot m.host is) ∙ slots-head hosts m.host (hosts_of ms) k ks own in
        let no : true ≡ false = sym (ap is_eq (same host_cmp host_order key)) ∙ ap (λ (x : HostKey). is_eq (host_cmp key x)) (some-is both) ∙ apart.0 in
        absurd (cc)

distinct-slots : (hosts : Hosts) (ms : List Member) (ks : List HostKey) → AreSlotsOf hosts (hosts_of ms) ks → IsDistinct (eq_by_cmp host_cmp) ks → IsDistinct nat_eq (hosts_of ms)
unfolding IsDistinct
distinct-slots hosts [] ks own distinct = tt
distinct-slots hosts (m ∷ ms) [] own distinct = absurd (no-keys hosts m.host (hosts_of ms) own)
distinct-slots hosts (m ∷ ms) (k ∷ ks) own distinct = (
  apart-slots hosts m.host k ms ks (slots-head hosts m.host (hosts_of ms) k ks own) (slots-rest hosts m.host (hosts_of ms) k ks own) distinct.0,
  distinct-slots hosts ms ks (slots-rest hosts m.host (hosts_of ms) k ks own) distinct.1,
)

-- no group of these rows names a host twice
abbrev pub NameHostsOnce : Rows → Type 0
NameHostsOnce rows = (keys : List HostKey) (marks : List Bool) → at group_cmp keys rows.group ≡ Some marks → IsDistinct (eq_by_cmp host_cmp) keys

-- a chip whose groups name no host twice may be made again of its tables
pub image-chip : (caps : Caps) (raw : Tables) → IsChip caps raw → NameHostsOnce (view_of raw) → IsImage caps raw
image-chip caps raw chip once = record {
  chip = chip;
  once = record { each = λ k members there. distinct-slots raw.host members (keys_of raw.host members) (slots-keys raw.host members (chip.rows.links.members.each k members there)) (once (keys_of raw.host members) (marks_of members) (group-seen raw k members chip.rows there)) };
}
