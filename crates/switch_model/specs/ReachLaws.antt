-- Chains of any length reach no more than chains of at most as many further members as there are routes.
use Rattle.std.proofs.Common.{◌≡◌, ◌≤◌, ◌↔◌, ℕ, zero, suc, Bool, true, false, Option, None, Some, List, [], ◌∷◌, ◌⊎◌, ◌==◌, ◌&&◌, length, map, if◌then◌else◌, refl, sym, ap, ◌∙◌, subst, inl, inr, arith}
use Rattle.std.specs.List.{Contains, filter_map, flat_map, reduce}
use Rattle.std.specs.Ordering.{nat_cmp, is_eq}
use Rattle.std.specs.declared.cmp.Ordering.{Ordering}
use Rattle.std.specs.declared.cmp.Ordering.TheVariants.{Less, Equal, Greater}
use Rattle.std.specs.Option.{option_map, option_and_then}
use Rattle.std.proofs.lemmas.List.{length-map}
use Rattle.std.proofs.lemmas.List.Elements.{Contains-append_left, Contains-append_right, Contains-append_cases}
use Rattle.keyed.specs.Keyed.{at}
use Rattle.keyed.specs.KeyedLaws.{decide}
use Rattle.keyed.specs.Members.{contains_first, contains_cases, contains_none, contains_map, map_contains, contains_filter_map, filter_map_contains, contains_filter, contains_flat_map, flat_map_contains, IsDistinct, few_distinct}
use Rattle.net_types.specs.declared.client.Client.{Client}
use Rattle.net_types.specs.declared.hop.Hop.{Hop}
use Rattle.net_types.specs.declared.ip.Ip.{Ip}
use Rattle.net_types.specs.declared.table.HostKey.{HostKey}
use Rattle.net_types.specs.declared.table.RouteKey.{RouteKey}
use Rattle.net_types.specs.Cidr.{Cidr}
use Rattle.net_types.specs.KeyOrder.{prefix_cmp, prefix_order}
use Rattle.switch_model.specs.declared.key.RibKey.{RibKey}
use Rattle.switch_model.specs.declared.record.RouteRec.{RouteRec}
use Rattle.switch_model.specs.declared.record.RouteRec.TheVariants.{Hops, ToCpu, Discard}
use Rattle.switch_model.specs.Addresses.{same_addr}
use Rattle.switch_model.specs.BestRoute.{BestRoute, connected, learnt, best, connected_first, connected_to, routes_to, nearer}
use Rattle.switch_model.specs.LongestMatch.{longest_match, matches, longer, with_best}
use Rattle.switch_model.specs.PlainState.{Rib}
use Rattle.switch_model.specs.Reach.{Lead, direct, onward, to_cpu, dropped, nothing, lead_of_match, lead_over, leads_to, is_of_vrf, hops_of_best, leads, IsChain, Reaches, onward_of, reached_within}

-- chains
pub reaches_first : (rib : Rib) (vrf : ℕ) (prefix : Cidr) (met : Lead) → Contains (leads rib vrf prefix) met → Reaches rib vrf prefix met
reaches_first rib vrf prefix met given = record { last = prefix; members = []; chain = refl; given = given }

pub reaches_through : (rib : Rib) (vrf : ℕ) (prefix next : Cidr) (met : Lead) → Contains (leads rib vrf prefix) (onward next) → Reaches rib vrf next met → Reaches rib vrf prefix met
reaches_through rib vrf prefix next met first rest = record { last = rest.last; members = next ∷ rest.members; chain = (first, rest.chain); given = rest.given }

-- what `reached_within` has is reached
is_onward : (met : Lead) (prefix : Cidr) → onward_of met ≡ Some prefix → met ≡ onward prefix
is_onward (onward p) prefix is = let same : p ≡ prefix = cc in ap onward same
is_onward (direct host) prefix is = absurd (cc)
is_onward to_cpu prefix is = absurd (cc)
is_onward dropped prefix is = absurd (cc)
is_onward nothing prefix is = absurd (cc)

pub reaches-from_reached : (rib : Rib) (vrf n : ℕ) (prefix : Cidr) (met : Lead) → Contains (reached_within rib vrf n prefix) met → Reaches rib vrf prefix met
reaches-from_reached rib vrf zero prefix met has = reaches_first rib vrf prefix met has
reaches-from_reached rib vrf (suc n) prefix met has =
    elim (Contains-append_cases (leads rib vrf prefix) (flat_map (reached_within rib vrf n) (filter_map onward_of (leads rib vrf prefix))) met has) [
      | inl here ↦ reaches_first rib vrf prefix met here
      | inr later ↦
          let found = contains_flat_map (reached_within rib vrf n) (filter_map onward_of (leads rib vrf prefix)) met later in
          let by = contains_filter_map onward_of (leads rib vrf prefix) found.0 found.1 in
          let P : Lead → Type 0 = λ m. Contains (leads rib vrf prefix) m in
          reaches_through rib vrf prefix found.0 met (subst P (is_onward by.0 found.0 by.2) by.1) (reaches-from_reached rib vrf n found.0 met found.2)
    ]

-- a chain of at most n further members is counted in
reached_here : (rib : Rib) (vrf n : ℕ) (prefix : Cidr) (met : Lead) → Contains (leads rib vrf prefix) met → Contains (reached_within rib vrf n prefix) met
reached_here rib vrf zero prefix met has = has
reached_here rib vrf (suc n) prefix met has = Contains-append_left (leads rib vrf prefix) (flat_map (reached_within rib vrf n) (filter_map onward_of (leads rib vrf prefix))) met has

reached-from_chain : (rib : Rib) (vrf n : ℕ) (prefix : Cidr) (members : List Cidr) (last : Cidr) (met : Lead) → length members ≤ n → IsChain rib vrf prefix members last → Contains (leads rib vrf last) met → Contains (reached_within rib vrf n prefix) met
reached-from_chain rib vrf n prefix [] last met short chain given = let P : Cidr → Type 0 = λ p. Contains (leads rib vrf p) met in reached_here rib vrf n prefix met (subst P (sym chain) given)
reached-from_chain rib vrf zero prefix (next ∷ more) last met short chain given = absurd (omega (arith, short))
reached-from_chain rib vrf (suc n) prefix (next ∷ more) last met short chain given =
    let rest : Contains (reached_within rib vrf n next) met = reached-from_chain rib vrf n next more last met (omega (arith, short)) chain.1 given in
    let followed : Contains (filter_map onward_of (leads rib vrf prefix)) next = filter_map_contains onward_of (leads rib vrf prefix) (onward next) next chain.0 refl in
    Contains-append_right (leads rib vrf prefix) (flat_map (reached_within rib vrf n) (filter_map onward_of (leads rib vrf prefix))) met (flat_map_contains (reached_within rib vrf n) (filter_map onward_of (leads rib vrf prefix)) next met followed rest)

-- a chain may be cut short, so that no further member stands in it twice
record Cut (rib : Rib) (vrf : ℕ) (prefix last : Cidr) : Type 0 where
  members : List Cidr
  chain : IsChain rib vrf prefix members last
  distinct : IsDistinct members

record CutPast (rib : Rib) (vrf : ℕ) (prefix last : Cidr) : Type 0 where
  members : List Cidr
  chain : IsChain rib vrf prefix members last
  distinct : IsDistinct members
  apart : Contains members prefix → ⊥

-- from a member on, or the member isn't there
suffix_from : (rib : Rib) (vrf : ℕ) (prefix start last : Cidr) (members : List Cidr) → IsChain rib vrf start members last → IsDistinct members → (Contains members prefix → ⊥) ⊎ CutPast rib vrf prefix last
suffix_from rib vrf prefix start last [] chain distinct = inl (λ has. contains_none prefix has)
suffix_from rib vrf prefix start last (next ∷ more) chain distinct = elim (decide prefix_cmp prefix_order prefix next) [
  | inl is ↦
      let P : Cidr → Type 0 = λ p. IsChain rib vrf p more last in
      let Q : Cidr → Type 0 = λ p. Contains more p → ⊥ in
      inr (record { members = more; chain = subst P (sym is) chain.1; distinct = distinct.1; apart = subst Q (sym is) distinct.0 })
  | inr differs ↦ elim (suffix_from rib vrf prefix next last more chain.1 distinct.1) [
    | inl absent ↦ inl (λ has. elim (contains_cases next more prefix has) [ inl is ↦ differs is | inr rest ↦ absent rest ])
    | inr cut ↦ inr cut
  ]
]

cut_short : (rib : Rib) (vrf : ℕ) (prefix last : Cidr) (members : List Cidr) → IsChain rib vrf prefix members last → Cut rib vrf prefix last
cut_short rib vrf prefix last [] chain = record { members = []; chain = chain; distinct = tt }
cut_short rib vrf prefix last (next ∷ more) chain =
    let rest : Cut rib vrf next last = cut_short rib vrf next last more chain.1 in
    elim (suffix_from rib vrf next next last rest.members rest.chain rest.distinct) [
      | inl absent ↦ record { members = next ∷ rest.members; chain = (chain.0, rest.chain); distinct = (absent, rest.distinct) }
      | inr cut ↦ record { members = next ∷ cut.members; chain = (chain.0, cut.chain); distinct = (cut.apart, cut.distinct) }
    ]

-- a prefix that is followed has a best route with hops
pub record HasHops (rib : Rib) (vrf : ℕ) (prefix : Cidr) : Type 0 where
  pub client : Client
  pub hops : List Hop
  pub best : best rib vrf prefix ≡ Some (learnt client (Hops hops))

record MatchesHops (found : Option (Cidr × BestRoute)) (prefix : Cidr) : Type 0 where
  client : Client
  hops : List Hop
  is : found ≡ Some (prefix, learnt client (Hops hops))

met_at_onward : (ip : Ip) (found : Option (Cidr × BestRoute)) (prefix : Cidr) → lead_of_match ip found ≡ onward prefix → MatchesHops found prefix
met_at_onward ip None prefix is = absurd (cc)
met_at_onward ip (Some (p, connected intf)) prefix is = absurd (cc)
met_at_onward ip (Some (p, learnt client (Hops hops))) prefix is =
    let same : p ≡ prefix = cc in record { client = client; hops = hops; is = ap (λ (c : Cidr). Some (c, learnt client (Hops hops))) same }
met_at_onward ip (Some (p, learnt client ToCpu)) prefix is = absurd (cc)
met_at_onward ip (Some (p, learnt client Discard)) prefix is = absurd (cc)

by_intf_not_onward : (b : Bool) (host : HostKey) (prefix : Cidr) → (if b then direct host else nothing) ≡ onward prefix → ⊥
by_intf_not_onward true host prefix is = cc
by_intf_not_onward false host prefix is = cc

with_best-is : (rib : Rib) (vrf : ℕ) (p prefix : Cidr) (route : BestRoute) (b : Option BestRoute) → option_map {U = Cidr × BestRoute} (λ r. (p, r)) b ≡ Some (prefix, route) → best rib vrf p ≡ b → best rib vrf prefix ≡ Some route
with_best-is rib vrf p prefix route None is found = absurd (cc)
with_best-is rib vrf p prefix route (Some r) is found =
    let pair : (p, r) ≡ (prefix, route) = cc in
    let first : p ≡ prefix = ap (λ (x : Cidr × BestRoute). x.0) pair in
    let second : r ≡ route = ap (λ (x : Cidr × BestRoute). x.1) pair in
    ap (λ (c : Cidr). best rib vrf c) (sym first) ∙ found ∙ ap Some second

longest-best : (rib : Rib) (vrf : ℕ) (key : Option RouteKey) (prefix : Cidr) (route : BestRoute) → option_and_then (λ k. with_best rib vrf k.prefix) key ≡ Some (prefix, route) → best rib vrf prefix ≡ Some route
longest-best rib vrf None prefix route is = absurd (cc)
longest-best rib vrf (Some k) prefix route is = with_best-is rib vrf k.prefix prefix route (best rib vrf k.prefix) is refl

meets_onward : (rib : Rib) (vrf : ℕ) (ip : Ip) (intf : Option ℕ) (prefix : Cidr) → lead_over rib vrf ip intf ≡ onward prefix → HasHops rib vrf prefix
meets_onward rib vrf ip (Some intf) prefix is = absurd (by_intf_not_onward (is_of_vrf vrf (at nat_cmp intf rib.intfs)) (record { ip = ip; intf = intf }) prefix is)
meets_onward rib vrf ip None prefix is =
    let found = met_at_onward ip (longest_match rib vrf ip) prefix is in
    record { client = found.client; hops = found.hops; best = longest-best rib vrf (reduce longer (matches rib vrf ip)) prefix (learnt found.client (Hops found.hops)) found.is }

pub followed-has_hops : (rib : Rib) (vrf : ℕ) (prefix next : Cidr) → Contains (leads rib vrf prefix) (onward next) → HasHops rib vrf next
followed-has_hops rib vrf prefix next has =
    let found = contains_map (leads_to rib vrf) (hops_of_best (best rib vrf prefix)) (onward next) has in
    meets_onward rib vrf found.0.ip found.0.intf next found.2

-- and so it is the prefix of a route
abbrev pub route_prefix : RibKey × RouteRec → Cidr
route_prefix e = e.0.prefix

is_tied : (o : Ordering) → is_eq o ≡ true → o ≡ Equal
is_tied Less h = absurd (cc)
is_tied Equal h = refl
is_tied Greater h = absurd (cc)

both_true : (a b : Bool) → (a && b) ≡ true → b ≡ true
both_true true b h = h
both_true false b h = absurd (cc)

routed : (rib : Rib) (vrf : ℕ) (prefix : Cidr) (e : RibKey × RouteRec) → Contains (routes_to rib vrf prefix) e → Contains (map route_prefix rib.routes) prefix
routed rib vrf prefix e has =
    let found = contains_filter (λ x. (x.0.vrf == vrf) && same_addr prefix x.0.prefix) rib.routes e has in
    let same : prefix ≡ e.0.prefix = prefix_order.exact prefix e.0.prefix (is_tied (prefix_cmp prefix e.0.prefix) (both_true (e.0.vrf == vrf) (same_addr prefix e.0.prefix) found.1)) in
    let P : Cidr → Type 0 = λ p. Contains (map route_prefix rib.routes) p in
    subst P (sym same) (map_contains route_prefix rib.routes e found.0)

learnt-routed : (rib : Rib) (vrf : ℕ) (prefix : Cidr) (intf : Option ℕ) (routes : List (RibKey × RouteRec)) (client : Client) (route : RouteRec) → connected_first intf (reduce nearer routes) ≡ Some (learnt client route) → ((e : RibKey × RouteRec) → Contains routes e → Contains (map route_prefix rib.routes) prefix) → Contains (map route_prefix rib.routes) prefix
learnt-routed rib vrf prefix (Some intf) routes client route is among = absurd (cc)
learnt-routed rib vrf prefix None [] client route is among = absurd (cc)
learnt-routed rib vrf prefix None (e ∷ es) client route is among = among e (contains_first e es)

pub has_hops-routed : (rib : Rib) (vrf : ℕ) (prefix : Cidr) → HasHops rib vrf prefix → Contains (map route_prefix rib.routes) prefix
has_hops-routed rib vrf prefix has = learnt-routed rib vrf prefix (connected_to rib vrf prefix) (routes_to rib vrf prefix) has.client (Hops has.hops) has.best (λ e among. routed rib vrf prefix e among)

members-routed : (rib : Rib) (vrf : ℕ) (prefix last : Cidr) (members : List Cidr) → IsChain rib vrf prefix members last → (p : Cidr) → Contains members p → Contains (map route_prefix rib.routes) p
members-routed rib vrf prefix last [] chain p has = absurd (contains_none p has)
members-routed rib vrf prefix last (next ∷ more) chain p has = elim (contains_cases next more p has) [
  | inl is ↦ let P : Cidr → Type 0 = λ c. Contains (map route_prefix rib.routes) c in subst P (sym is) (has_hops-routed rib vrf next (followed-has_hops rib vrf prefix next chain.0))
  | inr rest ↦ members-routed rib vrf next last more chain.1 p rest
]

pub reached-from_reaches : (rib : Rib) (vrf : ℕ) (prefix : Cidr) (met : Lead) → Reaches rib vrf prefix met → Contains (reached_within rib vrf (length rib.routes) prefix) met
reached-from_reaches rib vrf prefix met r =
    let cut = cut_short rib vrf prefix r.last r.members r.chain in
    let few : length cut.members ≤ length (map route_prefix rib.routes) = few_distinct cut.members (map route_prefix rib.routes) cut.distinct (members-routed rib vrf prefix r.last cut.members cut.chain) in
    reached-from_chain rib vrf (length rib.routes) prefix cut.members r.last met (omega (arith, few, length-map rib.routes route_prefix)) cut.chain r.given

-- what chains of at most as many further members as there are routes reach is what any chain reaches
pub reached-exact : (rib : Rib) (vrf : ℕ) (prefix : Cidr) (met : Lead) → Contains (reached_within rib vrf (length rib.routes) prefix) met ↔ Reaches rib vrf prefix met
reached-exact rib vrf prefix met = ((λ has. reaches-from_reached rib vrf (length rib.routes) prefix met has), (λ r. reached-from_reaches rib vrf prefix met r))
