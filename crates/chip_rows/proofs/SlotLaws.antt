-- What is read by slot is what the tables mean.
use Rattle.std.proofs.Common.{◌≡◌, ◌<◌, ◌+◌, ◌++◌, ℕ, Bool, List, [], ◌∷◌, Option, None, Some, length, get_or, map, take, refl, sym, ap, ◌∙◌, subst}
use Rattle.std.proofs.lemmas.List.{take_more}
use Rattle.std.proofs.lemmas.List.Elements.{filter_map-append}
use Rattle.std.specs.List.{cons_option}
use Rattle.std.specs.Option.{option_map, option_map_or}
use Rattle.std.specs.Ordering.{nat_cmp}
use Rattle.keyed.specs.Keyed.{Ascends, at, with_values}
use Rattle.keyed.specs.KeyOrders.{nat_order}
use Rattle.keyed.specs.KeyedLaws.{at-with_values}
use Rattle.keyed.specs.ValueLaws.{ascends-with_values}
use Rattle.net_types.specs.declared.group.Member.{Member}
use Rattle.net_types.specs.declared.table.HopTarget.{HopTarget}
use Rattle.net_types.specs.declared.table.HopTarget.TheVariants.{Host as HopHost, Group as HopGroup, Discard as HopDiscard}
use Rattle.net_types.specs.declared.table.HostKey.{HostKey}
use Rattle.net_types.specs.declared.table.HostRow.{HostRow}
use Rattle.net_types.specs.declared.table.RouteKey.{RouteKey}
use Rattle.net_types.specs.declared.table.RouteRow.{RouteRow}
use Rattle.net_types.specs.declared.table.RouteRow.TheVariants.{Host, Group, ToCpu, Discard}
use Rattle.net_types.specs.declared.table.Tables.{Tables}
use Rattle.chip_core.specs.Chip.{key_in, keys_of, marks_of, target_of}
use Rattle.chip_core.specs.Slots.{Groups, Hosts, host_entries}
use Rattle.chip_rows.specs.BySlot.{group_keys, group_rows, group_target, host_keys, member_keys, route_rows, target_at}

host_keys-with : (hosts : Hosts) → host_keys hosts ≡ with_values (λ h. h.0) (host_entries hosts)
host_keys-with [] = refl
host_keys-with (h ∷ hs) = ap (λ (l : List (ℕ × HostKey)). (h.0, h.1) ∷ l) (host_keys-with hs)

pub host_keys-ascend : (hosts : Hosts) → Ascends nat_cmp (host_entries hosts) → Ascends nat_cmp (host_keys hosts)
host_keys-ascend hosts asc = subst (λ (l : List (ℕ × HostKey)). Ascends nat_cmp l) (sym (host_keys-with hosts)) (ascends-with_values nat_cmp (λ (h : HostKey × HostRow). h.0) (host_entries hosts) asc)

-- the key in a slot
key_at : (hosts : Hosts) (slot : ℕ) → at nat_cmp slot (host_keys hosts) ≡ key_in hosts slot
key_at hosts slot = ap (λ (l : List (ℕ × HostKey)). at nat_cmp slot l) (host_keys-with hosts) ∙ at-with_values nat_cmp nat_order (λ (h : HostKey × HostRow). h.0) slot (host_entries hosts)

-- the keys of members
pub member_keys-are : (hosts : Hosts) (members : List Member) → member_keys (host_keys hosts) members ≡ keys_of hosts members
member_keys-are hosts [] = refl
member_keys-are hosts (m ∷ ms) =
    ap (λ (o : Option HostKey). cons_option o (member_keys (host_keys hosts) ms)) (key_at hosts m.host)
    ∙ ap (cons_option (key_in hosts m.host)) (member_keys-are hosts ms)

group_keys-with : (keys : List (ℕ × HostKey)) (groups : Groups) → group_keys keys groups ≡ with_values (member_keys keys) groups
group_keys-with keys [] = refl
group_keys-with keys (g ∷ gs) = ap (λ (l : List (ℕ × List HostKey)). (g.0, member_keys keys g.1) ∷ l) (group_keys-with keys gs)

pub group_keys-ascend : (keys : List (ℕ × HostKey)) (groups : Groups) → Ascends nat_cmp groups → Ascends nat_cmp (group_keys keys groups)
group_keys-ascend keys groups asc = subst (λ (l : List (ℕ × List HostKey)). Ascends nat_cmp l) (sym (group_keys-with keys groups)) (ascends-with_values nat_cmp (member_keys keys) groups asc)

-- the rows of groups
pub group_rows-are : (hosts : Hosts) (groups : Groups) → group_rows (host_keys hosts) groups ≡ map (λ g. (keys_of hosts g.1, marks_of g.1)) groups
group_rows-are hosts [] = refl
group_rows-are hosts (g ∷ gs) =
    ap (λ (ks : List HostKey). (ks, marks_of g.1) ∷ group_rows (host_keys hosts) gs) (member_keys-are hosts g.1)
    ∙ ap (λ (l : List (List HostKey × List Bool)). (keys_of hosts g.1, marks_of g.1) ∷ l) (group_rows-are hosts gs)

fused : (hosts : Hosts) (o : Option (List Member)) → option_map_or HopGroup (option_map (member_keys (host_keys hosts)) o) HopDiscard ≡ option_map_or (λ members. HopGroup (keys_of hosts members)) o HopDiscard
fused hosts None = refl
fused hosts (Some members) = ap HopGroup (member_keys-are hosts members)

-- where a route leads
target-is : (raw : Tables) (row : RouteRow) → target_at (host_keys raw.host) (group_keys (host_keys raw.host) raw.group) row ≡ target_of raw row
target-is raw (Host slot) = ap (λ (o : Option HostKey). option_map_or HopHost o HopDiscard) (key_at raw.host slot)
target-is raw (Group slot) =
    ap (λ (l : List (ℕ × List HostKey)). group_target l slot) (group_keys-with (host_keys raw.host) raw.group)
    ∙ ap (λ (o : Option (List HostKey)). option_map_or HopGroup o HopDiscard) (at-with_values nat_cmp nat_order (member_keys (host_keys raw.host)) slot raw.group)
    ∙ fused raw.host (at nat_cmp slot raw.group)
target-is raw ToCpu = refl
target-is raw Discard = refl

targets_of : (raw : Tables) (routes : List (RouteKey × RouteRow)) → route_rows (host_keys raw.host) (group_keys (host_keys raw.host) raw.group) routes ≡ with_values (target_of raw) routes
targets_of raw [] = refl
targets_of raw (r ∷ rs) =
    ap (λ (t : HopTarget). (r.0, t) ∷ route_rows (host_keys raw.host) (group_keys (host_keys raw.host) raw.group) rs) (target-is raw r.1)
    ∙ ap (λ (l : List (RouteKey × HopTarget)). (r.0, target_of raw r.1) ∷ l) (targets_of raw rs)

pub routes-are : (raw : Tables) → route_rows (host_keys raw.host) (group_keys (host_keys raw.host) raw.group) raw.route ≡ with_values (target_of raw) raw.route
routes-are raw = targets_of raw raw.route

-- one member more
pub key-more : (keys : List (ℕ × HostKey)) (members : List Member) (i : ℕ) (m : Member) (hosts more : List HostKey) (o : Option HostKey) → i < length members → m ≡ get_or members i m → hosts ≡ member_keys keys (take i members) → o ≡ at nat_cmp m.host keys → more ≡ hosts ++ cons_option o [] → more ≡ member_keys keys (take (i + 1) members)
key-more keys members i m hosts more o within is so_far found added =
    let key : Member → Option HostKey = λ x. at nat_cmp x.host keys in
    let taken : take i members ++ m ∷ [] ≡ take (i + 1) members = ap (λ (x : Member). take i members ++ x ∷ []) is ∙ sym (take_more members i m within) in
    added
    ∙ ap (λ (l : List HostKey). l ++ cons_option o []) so_far
    ∙ ap (λ (x : Option HostKey). member_keys keys (take i members) ++ cons_option x []) found
    ∙ sym (filter_map-append key (take i members) (m ∷ []))
    ∙ ap (member_keys keys) taken
