-- An entry of the FIB depends on what the chains from its prefix meet.
use Rattle.std.proofs.Common.{◌≡◌, ℕ, Bool, Option, None, Some, List, [], ◌∷◌, length, map, if◌then◌else◌, refl, sym, ap, ◌∙◌, subst}
use Rattle.std.specs.List.{Contains}
use Rattle.keyed.specs.Members.{contains_first, contains_later}
use Rattle.net_types.specs.declared.ip.Ip.{Ip}
use Rattle.net_types.specs.Cidr.{Cidr}
use Rattle.switch_model.specs.declared.record.RouteRec.TheVariants.{Hops, ToCpu, Discard}
use Rattle.switch_model.specs.BestRoute.{BestRoute, connected, learnt, best}
use Rattle.switch_model.specs.Fib.{entry_of_leads, fib_of_best, fib}
use Rattle.switch_model.specs.LongestMatch.{longest_match}
use Rattle.switch_model.specs.PlainState.{Rib}
use Rattle.switch_model.specs.Reach.{Lead, direct, onward, nothing, lead_of_match, lead_over, leads_to, hops_of_best, leads, IsChain, Reaches, reached_within}
use Rattle.switch_model.specs.ReachLaws.{reached-exact}
use Rattle.route_laws.proofs.EndLaws.{end_of-same}
use Rattle.route_laws.specs.Local.{is_in, Agree}

map_same : {A B : Type 0} (f g : A → B) (xs : List A) → ((x : A) → Contains xs x → f x ≡ g x) → map f xs ≡ map g xs
map_same f g [] same = refl
map_same {B = B} f g (x ∷ xs) same = ap (λ (y : B). y ∷ map f xs) (same x (contains_first x xs)) ∙ ap (λ (ys : List B). g x ∷ ys) (map_same f g xs (λ y has. same y (contains_later x xs y has)))

module _ (old new : Rib) (vrf : ℕ) where
  -- a hop leads to the same
  lead_same : (ip : Ip) (intf : Option ℕ) → (intf ≡ None → longest_match old vrf ip ≡ longest_match new vrf ip) → ((i : ℕ) → intf ≡ Some i → is_in old vrf i ≡ is_in new vrf i) → lead_over old vrf ip intf ≡ lead_over new vrf ip intf
  lead_same ip None match intfs = ap (lead_of_match ip) (match refl)
  lead_same ip (Some intf) match intfs = ap (λ (b : Bool). if b then direct (record { ip = ip; intf = intf }) else nothing) (intfs intf refl)

  leads_same : (prefix : Cidr) → Agree old new vrf prefix → leads old vrf prefix ≡ leads new vrf prefix
  leads_same prefix agree =
      ap (λ (b : Option BestRoute). map (leads_to old vrf) (hops_of_best b)) agree.same_best
      ∙ map_same (leads_to old vrf) (leads_to new vrf) (hops_of_best (best new vrf prefix)) (λ hop has. lead_same hop.ip hop.intf (agree.same_match hop has) (λ i names. agree.same_intf hop i has names))

  -- each prefix that a chain from this one meets
  abbrev pub AllAgree : Cidr → Type 0
  AllAgree prefix = (members : List Cidr) (last : Cidr) → IsChain new vrf prefix members last → Agree old new vrf last

  agree_past : (prefix next : Cidr) → AllAgree prefix → Contains (leads new vrf prefix) (onward next) → AllAgree next
  agree_past prefix next all first = λ members last chain. all (next ∷ members) last (first, chain)

  chain_old : (prefix last : Cidr) (members : List Cidr) → AllAgree prefix → IsChain new vrf prefix members last → IsChain old vrf prefix members last
  chain_old prefix last [] all chain = chain
  chain_old prefix last (next ∷ more) all chain =
      (subst (λ (l : List Lead). Contains l (onward next)) (sym (leads_same prefix (all [] prefix refl))) chain.0, chain_old next last more (agree_past prefix next all chain.0) chain.1)

  chain_new : (prefix last : Cidr) (members : List Cidr) → AllAgree prefix → IsChain old vrf prefix members last → IsChain new vrf prefix members last
  chain_new prefix last [] all chain = chain
  chain_new prefix last (next ∷ more) all chain =
      let first : Contains (leads new vrf prefix) (onward next) = subst (λ (l : List Lead). Contains l (onward next)) (leads_same prefix (all [] prefix refl)) chain.0 in
      (first, chain_new next last more (agree_past prefix next all first) chain.1)

  pub reaches_old : (prefix : Cidr) (lead : Lead) → AllAgree prefix → Reaches new vrf prefix lead → Reaches old vrf prefix lead
  reaches_old prefix lead all r = record {
    last = r.last;
    members = r.members;
    chain = chain_old prefix r.last r.members all r.chain;
    given = subst (λ (l : List Lead). Contains l lead) (sym (leads_same r.last (all r.members r.last r.chain))) r.given;
  }

  pub reaches_new : (prefix : Cidr) (lead : Lead) → AllAgree prefix → Reaches old vrf prefix lead → Reaches new vrf prefix lead
  reaches_new prefix lead all r =
      let chain : IsChain new vrf prefix r.members r.last = chain_new prefix r.last r.members all r.chain in
      record { last = r.last; members = r.members; chain = chain; given = subst (λ (l : List Lead). Contains l lead) (leads_same r.last (all r.members r.last chain)) r.given }

  ends_same : (prefix : Cidr) → AllAgree prefix → entry_of_leads (reached_within old vrf (length old.routes) prefix) ≡ entry_of_leads (reached_within new vrf (length new.routes) prefix)
  ends_same prefix all = end_of-same (reached_within old vrf (length old.routes) prefix) (reached_within new vrf (length new.routes) prefix) (λ lead. (
    (λ has. (reached-exact new vrf prefix lead).1 (reaches_new prefix lead all ((reached-exact old vrf prefix lead).0 has))),
    (λ has. (reached-exact old vrf prefix lead).1 (reaches_old prefix lead all ((reached-exact new vrf prefix lead).0 has))),
  ))

  entry_same : (prefix : Cidr) (b : Option BestRoute) → AllAgree prefix → fib_of_best old vrf prefix b ≡ fib_of_best new vrf prefix b
  entry_same prefix None all = refl
  entry_same prefix (Some (connected intf)) all = refl
  entry_same prefix (Some (learnt client ToCpu)) all = refl
  entry_same prefix (Some (learnt client Discard)) all = refl
  entry_same prefix (Some (learnt client (Hops hops))) all = ends_same prefix all

  pub fib-local : (prefix : Cidr) → AllAgree prefix → fib old vrf prefix ≡ fib new vrf prefix
  fib-local prefix all = ap (fib_of_best old vrf prefix) (all [] prefix refl).same_best ∙ entry_same prefix (best new vrf prefix) all
