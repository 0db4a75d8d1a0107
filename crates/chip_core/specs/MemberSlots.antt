-- Hosts and groups by their slots and by their keys.
use Rattle.std.proofs.Common.{◌≡◌, ℕ, List, [], ◌∷◌, All, Option, None, Some, IsSome, length, map, refl, sym, ap, ◌∙◌, subst}
use Rattle.std.specs.List.{cons_option}
use Rattle.std.specs.Option.{option_map}
use Rattle.std.specs.Ordering.{nat_cmp}
use Rattle.std.proofs.lemmas.List.{length-map}
use Rattle.keyed.specs.KeyOrders.{nat_order}
use Rattle.keyed.specs.Named.{key_of, AreDistinct}
use Rattle.keyed.specs.NamedLaws.{key_of-at}
use Rattle.net_types.specs.Groups.{group_key_cmp, group_key_of, group_key_order}
use Rattle.net_types.specs.KeyOrder.{group_cmp, group_order, host_cmp, host_order}
use Rattle.net_types.specs.declared.group.Member.{Member}
use Rattle.net_types.specs.declared.table.HostKey.{HostKey}
use Rattle.net_types.specs.declared.table.HostRow.{HostRow}
use Rattle.net_types.specs.declared.table.Tables.{Tables}
use Rattle.chip_core.specs.Chip.{IsConsistent, key_in, keys_of}
use Rattle.chip_core.specs.References.{AreMembersHeld, IsHost}
use Rattle.chip_core.specs.Slots.{Hosts, host_at, host_entries, hosts_of}
use Rattle.chip_core.specs.GatheredLaws.{distinct-renamed}
use Rattle.chip_core.specs.ListLaws.{all-head, all-rest, all-nil, all-cons, some-is, none-some}

-- the slots hold the hosts with these keys, in order
abbrev pub AreSlotsOf : Hosts → List ℕ → List HostKey → Type 0
AreSlotsOf hosts slots keys = map (λ slot. key_in hosts slot) slots ≡ map (λ key. Some key) keys

-- what stands at the front of both
pub slots-head : (hosts : Hosts) (slot : ℕ) (slots : List ℕ) (key : HostKey) (keys : List HostKey) → AreSlotsOf hosts (slot ∷ slots) (key ∷ keys) → key_in hosts slot ≡ Some key
slots-head hosts slot slots key keys is = cc

pub slots-rest : (hosts : Hosts) (slot : ℕ) (slots : List ℕ) (key : HostKey) (keys : List HostKey) → AreSlotsOf hosts (slot ∷ slots) (key ∷ keys) → AreSlotsOf hosts slots keys
slots-rest hosts slot slots key keys is = cc

pub no-slots : (hosts : Hosts) (key : HostKey) (keys : List HostKey) → AreSlotsOf hosts [] (key ∷ keys) → ⊥
no-slots hosts key keys is = cc

pub no-keys : (hosts : Hosts) (slot : ℕ) (slots : List ℕ) → AreSlotsOf hosts (slot ∷ slots) [] → ⊥
no-keys hosts slot slots is = cc

-- a slot is that of the key in it
pub slot-told : (hosts : Hosts) (slot : ℕ) (key : HostKey) → AreDistinct host_cmp (λ h. h.0) (host_entries hosts) → key_in hosts slot ≡ Some key → key_of host_cmp (λ (h : HostKey × HostRow). h.0) key (host_entries hosts) ≡ Some slot
slot-told hosts slot key distinct is = told (host_at slot hosts) refl is
  where
    told : (o : Option (HostKey × HostRow)) → host_at slot hosts ≡ o → option_map (λ h. h.0) o ≡ Some key → key_of host_cmp (λ (h : HostKey × HostRow). h.0) key (host_entries hosts) ≡ Some slot
    told None there named = absurd (none-some named)
    told (Some h) there named =
        subst (λ (k : HostKey). key_of host_cmp (λ (h : HostKey × HostRow). h.0) k (host_entries hosts) ≡ Some slot) (some-is named) (key_of-at nat_cmp nat_order host_cmp host_order (λ h. h.0) slot h (host_entries hosts) distinct there)

-- so the keys tell the slots
pub slots-told : (hosts : Hosts) (xs ys : List ℕ) (keys : List HostKey) → AreDistinct host_cmp (λ h. h.0) (host_entries hosts) → AreSlotsOf hosts xs keys → AreSlotsOf hosts ys keys → xs ≡ ys
slots-told hosts [] [] keys distinct a b = refl
slots-told hosts [] (y ∷ ys) [] distinct a b = absurd (no-keys hosts y ys b)
slots-told hosts [] (y ∷ ys) (k ∷ ks) distinct a b = absurd (no-slots hosts k ks a)
slots-told hosts (x ∷ xs) [] [] distinct a b = absurd (no-keys hosts x xs a)
slots-told hosts (x ∷ xs) [] (k ∷ ks) distinct a b = absurd (no-slots hosts k ks b)
slots-told hosts (x ∷ xs) (y ∷ ys) [] distinct a b = absurd (no-keys hosts x xs a)
slots-told hosts (x ∷ xs) (y ∷ ys) (k ∷ ks) distinct a b =
    let first : x ≡ y = some-is (sym (slot-told hosts x k distinct (slots-head hosts x xs k ks a)) ∙ slot-told hosts y k distinct (slots-head hosts y ys k ks b)) in
    let rest : xs ≡ ys = slots-told hosts xs ys ks distinct (slots-rest hosts x xs k ks a) (slots-rest hosts y ys k ks b) in
    ap (λ (n : ℕ). n ∷ xs) first ∙ ap (λ (l : List ℕ). y ∷ l) rest

-- the slots of a group's hosts hold its keys
pub slots-keys : (hosts : Hosts) (members : List Member) → All (λ m. IsSome (host_at m.host hosts)) members → AreSlotsOf hosts (hosts_of members) (keys_of hosts members)
slots-keys hosts [] held = refl
slots-keys hosts (m ∷ ms) held = joined (host_at m.host hosts) refl (all-head (λ m. IsSome (host_at m.host hosts)) m ms held) (slots-keys hosts ms (all-rest (λ m. IsSome (host_at m.host hosts)) m ms held))
  where
    joined : (o : Option (HostKey × HostRow)) → host_at m.host hosts ≡ o → IsSome o → AreSlotsOf hosts (hosts_of ms) (keys_of hosts ms) → AreSlotsOf hosts (hosts_of (m ∷ ms)) (keys_of hosts (m ∷ ms))
    joined None is there rest = absurd (cc)
    joined (Some h) is there rest =
        let key : key_in hosts m.host ≡ Some h.0 = ap (option_map (λ (h : HostKey × HostRow). h.0)) is in
        let keys : keys_of hosts (m ∷ ms) ≡ h.0 ∷ keys_of hosts ms = ap (λ (o : Option HostKey). cons_option o (keys_of hosts ms)) key in
        ap (λ (o : Option HostKey). o ∷ map (λ slot. key_in hosts slot) (hosts_of ms)) key ∙ ap (λ (l : List (Option HostKey)). Some h.0 ∷ l) rest ∙ sym (ap (map (λ key. Some key)) keys)

-- and members in the slots of hosts have their keys
pub keys-slots : (hosts : Hosts) (members : List Member) (keys : List HostKey) → AreSlotsOf hosts (hosts_of members) keys → keys_of hosts members ≡ keys
keys-slots hosts [] [] is = refl
keys-slots hosts [] (k ∷ ks) is = absurd (no-slots hosts k ks is)
keys-slots hosts (m ∷ ms) [] is = absurd (no-keys hosts m.host (hosts_of ms) is)
keys-slots hosts (m ∷ ms) (k ∷ ks) is =
    ap (λ (o : Option HostKey). cons_option o (keys_of hosts ms)) (slots-head hosts m.host (hosts_of ms) k ks is)
    ∙ ap (λ (l : List HostKey). k ∷ l) (keys-slots hosts ms ks (slots-rest hosts m.host (hosts_of ms) k ks is))

key-there : (hosts : Hosts) (slot : ℕ) (key : HostKey) → key_in hosts slot ≡ Some key → IsSome (host_at slot hosts)
key-there hosts slot key is = there (host_at slot hosts) is
  where
    there : (o : Option (HostKey × HostRow)) → option_map (λ h. h.0) o ≡ Some key → IsSome o
    there None named = absurd (none-some named)
    there (Some h) named = refl

pub held-slots : (raw : Tables) (members : List Member) (keys : List HostKey) → AreSlotsOf raw.host (hosts_of members) keys → AreMembersHeld raw members
held-slots raw [] keys is = all-nil (λ m. IsHost raw m.host)
held-slots raw (m ∷ ms) [] is = absurd (no-keys raw.host m.host (hosts_of ms) is)
held-slots raw (m ∷ ms) (k ∷ ks) is = all-cons (λ m. IsHost raw m.host) m ms (key-there raw.host m.host k (slots-head raw.host m.host (hosts_of ms) k ks is)) (held-slots raw ms ks (slots-rest raw.host m.host (hosts_of ms) k ks is))

-- keys are the same where the slots of the members hold the same
pub keys-same : (a b : Hosts) (members : List Member) → All (λ m. key_in a m.host ≡ key_in b m.host) members → keys_of a members ≡ keys_of b members
keys-same a b [] same = refl
keys-same a b (m ∷ ms) same =
    ap (λ (o : Option HostKey). cons_option o (keys_of a ms)) (all-head (λ m. key_in a m.host ≡ key_in b m.host) m ms same)
    ∙ ap (cons_option (key_in b m.host)) (keys-same a b ms (all-rest (λ m. key_in a m.host ≡ key_in b m.host) m ms same))

-- each key of a group is that of one of its members' slots
pub key-of_member : (Is : HostKey → Type 0) (hosts : Hosts) (members : List Member) (keys : List HostKey) → AreSlotsOf hosts (hosts_of members) keys → All (λ m. (key : HostKey) → key_in hosts m.host ≡ Some key → Is key) members → All Is keys
key-of_member Is hosts members [] is all = all-nil Is
key-of_member Is hosts [] (k ∷ ks) is all = absurd (no-slots hosts k ks is)
key-of_member Is hosts (m ∷ ms) (k ∷ ks) is all = all-cons Is k ks
    (all-head (λ m. (key : HostKey) → key_in hosts m.host ≡ Some key → Is key) m ms all k (slots-head hosts m.host (hosts_of ms) k ks is))
    (key-of_member Is hosts ms ks (slots-rest hosts m.host (hosts_of ms) k ks is) (all-rest (λ m. (key : HostKey) → key_in hosts m.host ≡ Some key → Is key) m ms all))

-- and the other way round
pub member-of_key : (Is : HostKey → Type 0) (hosts : Hosts) (members : List Member) (keys : List HostKey) → AreSlotsOf hosts (hosts_of members) keys → All Is keys → All (λ m. (key : HostKey) → key_in hosts m.host ≡ Some key → Is key) members
member-of_key Is hosts [] keys is all = all-nil (λ m. (key : HostKey) → key_in hosts m.host ≡ Some key → Is key)
member-of_key Is hosts (m ∷ ms) [] is all = absurd (no-keys hosts m.host (hosts_of ms) is)
member-of_key Is hosts (m ∷ ms) (k ∷ ks) is all = all-cons (λ m. (key : HostKey) → key_in hosts m.host ≡ Some key → Is key) m ms
    (λ key named. subst Is (some-is (sym (slots-head hosts m.host (hosts_of ms) k ks is) ∙ named)) (all-head Is k ks all))
    (member-of_key Is hosts ms ks (slots-rest hosts m.host (hosts_of ms) k ks is) (all-rest Is k ks all))

-- groups that are distinct by slots are distinct by keys
pub distinct-keys : (raw : Tables) → IsConsistent raw → AreDistinct group_cmp (keys_of raw.host) raw.group
distinct-keys raw chip = distinct-renamed nat_cmp nat_order group_key_cmp group_key_order group_cmp group_order group_key_of (keys_of raw.host) raw.group chip.keys.group
    (λ k j v w v_there w_there same. slots-told raw.host (hosts_of v) (hosts_of w) (keys_of raw.host w) chip.keys.host_keys
    (subst (AreSlotsOf raw.host (hosts_of v)) same (slots-keys raw.host v (chip.links.members.each k v v_there)))
    (slots-keys raw.host w (chip.links.members.each j w w_there)))
    chip.keys.group_keys

pub slots-length : (hosts : Hosts) (slots : List ℕ) (keys : List HostKey) → AreSlotsOf hosts slots keys → length slots ≡ length keys
slots-length hosts slots keys is = sym (length-map slots (λ slot. key_in hosts slot)) ∙ ap length is ∙ length-map keys (λ key. Some key)

-- the members of a row stand in the slots that it was made of
pub row-slots : (hosts : Hosts) (members : List Member) (read slots : List ℕ) (keys : List HostKey) → hosts_of members ≡ read → read ≡ slots → AreSlotsOf hosts slots keys → AreSlotsOf hosts (hosts_of members) keys
row-slots hosts members read slots keys made same own = subst (λ (l : List ℕ). AreSlotsOf hosts l keys) (sym (made ∙ same)) own
