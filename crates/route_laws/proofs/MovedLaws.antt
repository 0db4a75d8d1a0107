-- What isn't affected by a change of the routes has the same entry.
use Rattle.std.proofs.Common.{◌≡◌, ◌≤◌, ℕ, Bool, true, false, Option, None, Some, List, [], ◌∷◌, ◌⊎◌, if◌then◌else◌, refl, sym, ap, ◌∙◌, subst, inl, inr, arith}
use Rattle.std.specs.List.{Contains}
use Rattle.keyed.specs.Members.{contains_map}
use Rattle.net_types.specs.declared.hop.Hop.{Hop}
use Rattle.net_types.specs.declared.ip.Ip.{Ip}
use Rattle.net_types.specs.declared.table.HostKey.{HostKey}
use Rattle.net_types.specs.declared.table.RouteKey.{RouteKey}
use Rattle.net_types.specs.Cidr.{Cidr}
use Rattle.net_types.specs.Prefix.{contains}
use Rattle.switch_model.specs.declared.record.RouteRec.TheVariants.{Hops, ToCpu, Discard}
use Rattle.switch_model.specs.BestRoute.{BestRoute, connected, learnt, best}
use Rattle.switch_model.specs.Fib.{fib}
use Rattle.switch_model.specs.LongestMatch.{longest_match}
use Rattle.switch_model.specs.PlainState.{Rib}
use Rattle.switch_model.specs.Reach.{direct, onward, nothing, lead_of_match, lead_over, leads_to, hops_of_best, leads, IsChain}
use Rattle.route_laws.proofs.Decided.{same_route, same_test}
use Rattle.route_laws.proofs.Finds.{none_some, some-from}
use Rattle.route_laws.proofs.LocalLaws.{fib-local}
use Rattle.route_laws.proofs.MatchLaws.{match-longest, no_match, longest-match}
use Rattle.route_laws.specs.Local.{is_in, HasHop, Agree}
use Rattle.route_laws.specs.Match.{ArePrefixes, IsLongestMatch}
use Rattle.route_laws.specs.Moved.{key_in, IsMoved, IsMatchOf, DependsOn, IsAffected, changed, depends, Covers, HasDependents}

-- a hop that leads on to a prefix has it as its longest match
onward_match : (ip : Ip) (found : Option (Cidr × BestRoute)) (prefix : Cidr) → lead_of_match ip found ≡ onward prefix → (route : BestRoute) × (found ≡ Some (prefix, route))
onward_match ip None prefix is = absurd (cc)
onward_match ip (Some (p, connected intf)) prefix is = absurd (cc)
onward_match ip (Some (p, learnt client (Hops hops))) prefix is = let same : p ≡ prefix = cc in (learnt client (Hops hops), ap (λ (c : Cidr). Some (c, learnt client (Hops hops))) same)
onward_match ip (Some (p, learnt client ToCpu)) prefix is = absurd (cc)
onward_match ip (Some (p, learnt client Discard)) prefix is = absurd (cc)

not_onward : (b : Bool) (host : HostKey) (prefix : Cidr) → (if b then direct host else nothing) ≡ onward prefix → ⊥
not_onward true host prefix is = cc
not_onward false host prefix is = cc

record IsPlainTo (rib : Rib) (vrf : ℕ) (ip : Ip) (intf : Option ℕ) (prefix : Cidr) : Type 0 where
  plain : intf ≡ None
  match : IsMatchOf rib vrf ip prefix

plain_to : (rib : Rib) (vrf : ℕ) (ip : Ip) (intf : Option ℕ) (prefix : Cidr) → lead_over rib vrf ip intf ≡ onward prefix → IsPlainTo rib vrf ip intf prefix
plain_to rib vrf ip (Some intf) prefix is = absurd (not_onward (is_in rib vrf intf) (record { ip = ip; intf = intf }) prefix is)
plain_to rib vrf ip None prefix is = let m = onward_match ip (longest_match rib vrf ip) prefix is in record { plain = refl; match = record { route = m.0; is = m.1 } }

-- what a prefix leads on to, it depends on
depends_onward : (old new : Rib) (vrf : ℕ) (prefix next : Cidr) → Contains (leads new vrf prefix) (onward next) → DependsOn old new vrf prefix next
depends_onward old new vrf prefix next has =
    let at = contains_map (leads_to new vrf) (hops_of_best (best new vrf prefix)) (onward next) has in
    let to = plain_to new vrf at.0.ip at.0.intf next at.2 in
    record { hop = at.0; has = at.1; plain = to.plain; matched = inr to.match }

module _ (old new : Rib) (In : RouteKey → Type 0) (are_new : ArePrefixes new) (covers : Covers old new In) (vrf : ℕ) where
  abbrev pub Out : Cidr → Type 0
  Out prefix = In (key_in vrf prefix) → ⊥

  out_past : (prefix other : Cidr) → Out prefix → DependsOn old new vrf prefix other → Out other
  out_past prefix other out on = λ within. out (covers.dependents vrf prefix other on within)

  best_same : (prefix : Cidr) → Out prefix → best old vrf prefix ≡ best new vrf prefix
  best_same prefix out = same_route (best old vrf prefix) (best new vrf prefix) (λ differ. out (covers.moved (key_in vrf prefix) (inl differ)))

  intf_same : (prefix : Cidr) (hop : Hop) (intf : ℕ) → Out prefix → HasHop new vrf prefix hop → hop.intf ≡ Some intf → is_in old vrf intf ≡ is_in new vrf intf
  intf_same prefix hop intf out has names = same_test (is_in old vrf intf) (is_in new vrf intf) (λ differ. out (covers.moved (key_in vrf prefix) (inr (record { hop = hop; intf = intf; has = has; names = names; moved = differ }))))

  -- a match that isn't in the set is the match in both
  match_by : (ip : Ip) → ((other : Cidr) → IsMatchOf old vrf ip other ⊎ IsMatchOf new vrf ip other → Out other) → (o n : Option (Cidr × BestRoute)) → longest_match old vrf ip ≡ o → longest_match new vrf ip ≡ n → o ≡ n
  match_by ip out None None is_o is_n = refl
  match_by ip out None (Some (q, r)) is_o is_n =
      let l = match-longest new vrf ip q r is_n in
      let none : best old vrf q ≡ None = no_match old vrf ip is_o q l.inside in
      absurd (none_some (sym none ∙ best_same q (out q (inr (record { route = r; is = is_n }))) ∙ l.route_is))
  match_by ip out (Some (p, r)) None is_o is_n =
      let l = match-longest old vrf ip p r is_o in
      let none : best new vrf p ≡ None = no_match new vrf ip is_n p l.inside in
      absurd (none_some (sym none ∙ sym (best_same p (out p (inl (record { route = r; is = is_o })))) ∙ l.route_is))
  match_by ip out (Some (p, r)) (Some (q, s)) is_o is_n =
      let l = match-longest old vrf ip p r is_o in
      let m = match-longest new vrf ip q s is_n in
      let same_p = best_same p (out p (inl (record { route = r; is = is_o }))) in
      let same_q = best_same q (out q (inr (record { route = s; is = is_n }))) in
      let q_old : q.len ≤ p.len = l.longest q m.inside (some-from (best old vrf q) s (same_q ∙ m.route_is)) in
      let as_new : IsLongestMatch new vrf ip p r = record {
        inside = l.inside;
        route_is = sym same_p ∙ l.route_is;
        longest = λ other inside some. let top : other.len ≤ q.len = m.longest other inside some in omega (arith, top, q_old);
      } in
      sym (longest-match new are_new vrf ip p r as_new) ∙ is_n

  match_same : (prefix : Cidr) (hop : Hop) → Out prefix → HasHop new vrf prefix hop → hop.intf ≡ None → longest_match old vrf hop.ip ≡ longest_match new vrf hop.ip
  match_same prefix hop out has plain = match_by hop.ip (λ other matched. out_past prefix other out (record { hop = hop; has = has; plain = plain; matched = matched })) (longest_match old vrf hop.ip) (longest_match new vrf hop.ip) refl refl

  agree_out : (prefix : Cidr) → Out prefix → Agree old new vrf prefix
  agree_out prefix out = record { same_best = best_same prefix out; same_match = λ hop has plain. match_same prefix hop out has plain; same_intf = λ hop intf has names. intf_same prefix hop intf out has names }

  out_chain : (prefix last : Cidr) (members : List Cidr) → Out prefix → IsChain new vrf prefix members last → Out last
  out_chain prefix last [] out chain = subst Out chain out
  out_chain prefix last (next ∷ more) out chain = out_chain next last more (out_past prefix next out (depends_onward old new vrf prefix next chain.0)) chain.1

  pub entry_out : (prefix : Cidr) → Out prefix → fib old vrf prefix ≡ fib new vrf prefix
  entry_out prefix out = fib-local old new vrf prefix (λ members last chain. agree_out last (out_chain prefix last members out chain))

-- outside of a set that covers the change each entry stays
pub entries-stay : (old new : Rib) (In : RouteKey → Type 0) → ArePrefixes new → Covers old new In → (key : RouteKey) → (In key → ⊥) → fib old key.vrf key.prefix ≡ fib new key.vrf key.prefix
entries-stay old new In are_new covers key out = entry_out old new In are_new covers key.vrf key.prefix out

-- the least such set
pub affected-covers : (old new : Rib) (IsChanged : RouteKey → Type 0) → ((key : RouteKey) → IsMoved old new key → IsChanged key) → Covers old new (λ key. IsAffected old new IsChanged key.vrf key.prefix)
affected-covers old new IsChanged has = record { moved = λ key moved. changed key.prefix (has key moved); dependents = λ vrf prefix other on affected. depends prefix other on affected }

pub affected-least : (old new : Rib) (IsChanged In : RouteKey → Type 0) → ((key : RouteKey) → IsChanged key → In key) → ((vrf : ℕ) (prefix other : Cidr) → DependsOn old new vrf prefix other → In (key_in vrf other) → In (key_in vrf prefix)) → (vrf : ℕ) (prefix : Cidr) → IsAffected old new IsChanged vrf prefix → In (key_in vrf prefix)
affected-least old new IsChanged In has closed vrf prefix (changed _ is) = has (key_in vrf prefix) is
affected-least old new IsChanged In has closed vrf prefix (depends _ other on affected) = closed vrf prefix other on (affected-least old new IsChanged In has closed vrf other affected)

-- a set that has each key with a hop in one of it
match_contains : (rib : Rib) (vrf : ℕ) (ip : Ip) (prefix : Cidr) → IsMatchOf rib vrf ip prefix → contains prefix ip ≡ true
match_contains rib vrf ip prefix m = (match-longest rib vrf ip prefix m.route m.is).inside

pub contained-covers : (old new : Rib) (In : RouteKey → Type 0) → ((key : RouteKey) → IsMoved old new key → In key) → HasDependents new In → Covers old new In
contained-covers old new In has closed = record {
  moved = has;
  dependents = λ vrf prefix other on within. closed.dependents vrf prefix other on.hop on.has on.plain (elim on.matched [ inl m ↦ match_contains old vrf on.hop.ip other m | inr m ↦ match_contains new vrf on.hop.ip other m ]) within;
}
