-- Cutting what isn't listed and putting what is comes to the same as cutting all and putting what is listed.
use Rattle.std.proofs.Common.{◌≡◌, ◌↔◌, ◌==◌, ◌&&◌, not, ℕ, Bool, true, false, List, [], ◌∷◌, ◌++◌, None, Some, Contains, filter, map, refl, sym, ap, ◌∙◌, subst, inl, inr}
use Rattle.std.specs.List.{list_any}
use Rattle.std.specs.Ordering.{eq_by_cmp, nat_cmp, ordering_then}
use Rattle.std.specs.declared.cmp.Ordering.{Ordering}
use Rattle.std.specs.declared.cmp.Ordering.TheVariants.{Equal}
use Rattle.std.proofs.lemmas.Bool.{and_from, and_parts, both_ways, eq-eqb, eqb-true, not-true}
use Rattle.std.proofs.lemmas.List.Elements.{Contains-append_left, Contains-append_right}
use Rattle.keyed.specs.Keyed.{at, put, without, Ascends}
use Rattle.keyed.specs.KeyOrders.{nat_order}
use Rattle.keyed.specs.KeyedLaws.{decide, same, same_at, ascends-put, at-put, at-put_other, ascends-without, at-without, at-without_other}
use Rattle.keyed.specs.Members.{contains_first, contains_later, contains_cases, contains_none, contains_filter, contains_map, filter_contains, map_contains}
use Rattle.net_types.specs.declared.client.Client.{Client}
use Rattle.net_types.specs.Cidr.{Cidr}
use Rattle.net_types.specs.Clients.{client_number}
use Rattle.net_types.specs.KeyOrder.{prefix_cmp, prefix_order}
use Rattle.switch_model.specs.declared.key.RibKey.{RibKey}
use Rattle.switch_model.specs.declared.record.RouteRec.{RouteRec}
use Rattle.switch_model.specs.declared.via.Via.{Via}
use Rattle.switch_model.specs.Effect.{is_route_of, route_of, with_routes}
use Rattle.switch_model.specs.PlainState.{PlainState}
use Rattle.switch_model.specs.StateKeys.{rib_cmp, rib_order}
use Rattle.switch_model.specs.Touched.{keys_listed, keys_there}
use Rattle.node_map.specs.TreeNode.{Entries}
use Rattle.state_keys.specs.KeyLaws.{rib_numbering}
use Rattle.state_keys.specs.PartKeys.{rib_number, rib_of}
use Rattle.state_scan.specs.Listed.{listed}
use Rattle.state_update.specs.Sync.{is_unlisted, without_routes, IsRouteNumber}
use Rattle.state_update.proofs.Cases.{by_bool, by_option}
use Rattle.state_update.proofs.Doubles.{any_contains, any_same, contains_any}
use Rattle.keyed.specs.EntryLaws.{at_contains}
use Rattle.keyed.specs.FilterLaws.{ascends-filter, at-filter_in, at-filter_out}
use Rattle.state_update.proofs.Syncing.{key_of, unlisted_of}

-- the key is that of the client's route in the VRF to one of the prefixes
abbrev pub IsOneOf : ℕ → Client → List Cidr → RibKey → Type 0
IsOneOf vrf client prefixes q = (p : Cidr) × Contains prefixes p × (q ≡ key_of vrf client p)

module _ (vrf : ℕ) (client : Client) where
  -- puts that follow hide what stood under their keys
  with_routes_agree : (rs : List (Cidr × Via)) (l m : List (RibKey × RouteRec)) → Ascends rib_cmp l → Ascends rib_cmp m → ((q : RibKey) → (IsOneOf vrf client (map (λ r. r.0) rs) q → ⊥) → at rib_cmp q l ≡ at rib_cmp q m) → with_routes vrf client rs l ≡ with_routes vrf client rs m
  with_routes_agree [] l m a b agree = same_at rib_cmp rib_order l m a b (λ q. agree q (λ one. contains_none one.0 one.1))
  with_routes_agree (r ∷ rs) l m a b agree =
      let k : RibKey = key_of vrf client r.0 in
      let v : RouteRec = route_of r.1 in
      with_routes_agree rs (put rib_cmp k v l) (put rib_cmp k v m) (ascends-put rib_cmp rib_order k v l a) (ascends-put rib_cmp rib_order k v m b)
      (λ q other. elim (decide rib_cmp rib_order q k) [
        | inl is ↦ subst (λ (x : RibKey). at rib_cmp x (put rib_cmp k v l) ≡ at rib_cmp x (put rib_cmp k v m)) (sym is) (at-put rib_cmp rib_order k v l ∙ sym (at-put rib_cmp rib_order k v m))
        | inr apart ↦
            let still : at rib_cmp q l ≡ at rib_cmp q m = agree q (λ one. elim (contains_cases r.0 (map (λ x. x.0) rs) one.0 one.1) [
              | inl first ↦ apart (one.2 ∙ ap (key_of vrf client) first)
              | inr later ↦ other (one.0, later, one.2)
            ]) in
            at-put_other rib_cmp rib_order q k v l apart ∙ still ∙ sym (at-put_other rib_cmp rib_order q k v m apart)
      ])

  ascends-without_routes : (ps : List Cidr) (l : List (RibKey × RouteRec)) → Ascends rib_cmp l → Ascends rib_cmp (without_routes vrf client ps l)
  ascends-without_routes [] l asc = asc
  ascends-without_routes (p ∷ ps) l asc = ascends-without_routes ps (without rib_cmp (key_of vrf client p) l) (ascends-without rib_cmp rib_order (key_of vrf client p) l asc)

  at-without_routes_other : (q : RibKey) (ps : List Cidr) (l : List (RibKey × RouteRec)) → Ascends rib_cmp l → (IsOneOf vrf client ps q → ⊥) → at rib_cmp q (without_routes vrf client ps l) ≡ at rib_cmp q l
  at-without_routes_other q [] l asc other = refl
  at-without_routes_other q (p ∷ ps) l asc other =
      let k : RibKey = key_of vrf client p in
      at-without_routes_other q ps (without rib_cmp k l) (ascends-without rib_cmp rib_order k l asc) (λ one. other (one.0, contains_later p ps one.0 one.1, one.2))
      ∙ at-without_other rib_cmp rib_order q k l asc (λ is. other (p, contains_first p ps, is))

  stays_none : (q : RibKey) (ps : List Cidr) (l : List (RibKey × RouteRec)) → Ascends rib_cmp l → at rib_cmp q l ≡ None → at rib_cmp q (without_routes vrf client ps l) ≡ None
  stays_none q [] l asc none = none
  stays_none q (p ∷ ps) l asc none =
      let k : RibKey = key_of vrf client p in
      stays_none q ps (without rib_cmp k l) (ascends-without rib_cmp rib_order k l asc) (elim (decide rib_cmp rib_order q k) [
        | inl is ↦ subst (λ (x : RibKey). at rib_cmp x (without rib_cmp k l) ≡ None) (sym is) (at-without rib_cmp rib_order k l asc)
        | inr apart ↦ at-without_other rib_cmp rib_order q k l asc apart ∙ none
      ])

  at-without_routes : (p : Cidr) (ps : List Cidr) (l : List (RibKey × RouteRec)) → Ascends rib_cmp l → Contains ps p → at rib_cmp (key_of vrf client p) (without_routes vrf client ps l) ≡ None
  at-without_routes p [] l asc has = absurd (contains_none p has)
  at-without_routes p (x ∷ ps) l asc has =
      let k : RibKey = key_of vrf client x in
      elim (contains_cases x ps p has) [
        | inl is ↦ stays_none (key_of vrf client p) ps (without rib_cmp k l) (ascends-without rib_cmp rib_order k l asc) (ap (λ (y : Cidr). at rib_cmp (key_of vrf client y) (without rib_cmp k l)) is ∙ at-without rib_cmp rib_order k l asc)
        | inr later ↦ at-without_routes p ps (without rib_cmp k l) (ascends-without rib_cmp rib_order k l asc) later
      ]

  is_own : (p : Cidr) → is_route_of vrf client (key_of vrf client p) ≡ true
  is_own p = and_from (vrf == vrf) (client_number client == client_number client) (eq-eqb vrf vrf refl) (eq-eqb (client_number client) (client_number client) refl)

  own_key : (q : RibKey) → is_route_of vrf client q ≡ true → q ≡ key_of vrf client q.prefix
  own_key q is =
      let both = and_parts (q.vrf == vrf) (client_number q.client == client_number client) is in
      let vrfs : nat_cmp q.vrf vrf ≡ Equal = ap (nat_cmp q.vrf) (sym (eqb-true q.vrf vrf both.0)) ∙ same nat_cmp nat_order q.vrf in
      let prefixes : prefix_cmp q.prefix q.prefix ≡ Equal = same prefix_cmp prefix_order q.prefix in
      let clients : nat_cmp (client_number q.client) (client_number client) ≡ Equal = ap (nat_cmp (client_number q.client)) (sym (eqb-true (client_number q.client) (client_number client) both.1)) ∙ same nat_cmp nat_order (client_number q.client) in
      rib_order.exact q (key_of vrf client q.prefix)
      (ap (λ (o : Ordering). ordering_then o (ordering_then (prefix_cmp q.prefix q.prefix) (nat_cmp (client_number q.client) (client_number client)))) vrfs
      ∙ ap (λ (o : Ordering). ordering_then o (nat_cmp (client_number q.client) (client_number client))) prefixes
      ∙ clients)

  module _ (listed : List Cidr) (routes : List (RibKey × RouteRec)) (asc : Ascends rib_cmp routes) where
    -- the prefixes of the client's routes that aren't listed
    abbrev gone : List Cidr
    gone = map (λ e. e.0.prefix) (filter (λ e. is_unlisted vrf client listed e.0) routes)

    not_gone : (q : RibKey) → is_route_of vrf client q ≡ false → IsOneOf vrf client gone q → ⊥
    not_gone q not_own one = both_ways (is_route_of vrf client q) not_own (ap (is_route_of vrf client) one.2 ∙ is_own one.0)

    is_gone : (q : RibKey) (v : RouteRec) → is_route_of vrf client q ≡ true → (Contains listed q.prefix → ⊥) → at rib_cmp q routes ≡ Some v → Contains gone q.prefix
    is_gone q v own unlisted is =
        let fails : list_any (eq_by_cmp prefix_cmp q.prefix) listed ≡ false = by_bool (list_any (eq_by_cmp prefix_cmp q.prefix) listed) (λ h. absurd (unlisted (any_contains prefix_cmp prefix_order q.prefix listed h))) (λ h. h) in
        let test : is_unlisted vrf client listed q ≡ true = and_from (is_route_of vrf client q) (not (list_any (eq_by_cmp prefix_cmp q.prefix) listed)) own (ap not fails) in
        map_contains (λ (e : RibKey × RouteRec). e.0.prefix) (filter (λ e. is_unlisted vrf client listed e.0) routes) (q, v) (filter_contains (λ (e : RibKey × RouteRec). is_unlisted vrf client listed e.0) routes (q, v) (at_contains rib_cmp rib_order q v routes is) test)

    at_both : (q : RibKey) → (IsOneOf vrf client listed q → ⊥) → at rib_cmp q (without_routes vrf client gone routes) ≡ at rib_cmp q (filter (λ e. not (is_route_of vrf client e.0)) routes)
    at_both q other = by_bool (is_route_of vrf client q)
        (λ own.
        let key : q ≡ key_of vrf client q.prefix = own_key q own in
        let unlisted : Contains listed q.prefix → ⊥ = λ has. other (q.prefix, has, key) in
        let left : at rib_cmp q (without_routes vrf client gone routes) ≡ None = by_option (at rib_cmp q routes)
        (λ none. stays_none q gone routes asc none)
        (λ v is. ap (λ (x : RibKey). at rib_cmp x (without_routes vrf client gone routes)) key ∙ at-without_routes q.prefix gone routes asc (is_gone q v own unlisted is)) in
        left ∙ sym (at-filter_out rib_cmp rib_order (λ (k : RibKey). not (is_route_of vrf client k)) q routes (ap not own)))
        (λ not_own. at-without_routes_other q gone routes asc (not_gone q not_own) ∙ sym (at-filter_in rib_cmp rib_order (λ (k : RibKey). not (is_route_of vrf client k)) q routes asc (ap not not_own)))

  pub synced : (rs : List (Cidr × Via)) (routes : List (RibKey × RouteRec)) → Ascends rib_cmp routes → with_routes vrf client rs (without_routes vrf client (map (λ e. e.0.prefix) (filter (λ e. is_unlisted vrf client (map (λ r. r.0) rs) e.0) routes)) routes) ≡ with_routes vrf client rs (filter (λ e. not (is_route_of vrf client e.0)) routes)
  synced rs routes asc =
      let listed : List Cidr = map (λ r. r.0) rs in
      with_routes_agree rs (without_routes vrf client (gone listed routes asc) routes) (filter (λ e. not (is_route_of vrf client e.0)) routes)
      (ascends-without_routes (gone listed routes asc) routes asc)
      (ascends-filter rib_cmp rib_order (λ (k : RibKey). not (is_route_of vrf client k)) routes asc)
      (at_both listed routes asc)

-- what is cut isn't listed
pub gone_apart : (vrf : ℕ) (client : Client) (rs : List (Cidr × Via)) (routes : List (RibKey × RouteRec)) (taken : List Cidr) → taken ≡ map (λ e. e.0.prefix) (filter (λ e. is_unlisted vrf client (map (λ r. r.0) rs) e.0) routes) → (n : ℕ) → IsRouteNumber vrf client taken n → IsRouteNumber vrf client (map (λ r. r.0) rs) n → ⊥
gone_apart vrf client rs routes taken is n cut stays =
    let listed : List Cidr = map (λ r. r.0) rs in
    let test : RibKey × RouteRec → Bool = λ e. is_unlisted vrf client listed e.0 in
    let keys : key_of vrf client cut.0 ≡ key_of vrf client stays.0 = rib_numbering.distinct (key_of vrf client cut.0) (key_of vrf client stays.0) cut.2 stays.2 (cut.3 ∙ sym stays.3) in
    let has : Contains (map (λ e. e.0.prefix) (filter test routes)) cut.0 = subst (λ (l : List Cidr). Contains l cut.0) is cut.1 in
    let found = contains_map (λ (e : RibKey × RouteRec). e.0.prefix) (filter test routes) cut.0 has in
    let passes : is_unlisted vrf client listed found.0.0 ≡ true = (contains_filter test routes found.0 found.1).1 in
    let fails : list_any (eq_by_cmp prefix_cmp found.0.0.prefix) listed ≡ false = not-true (list_any (eq_by_cmp prefix_cmp found.0.0.prefix) listed) (and_parts (is_route_of vrf client found.0.0) (not (list_any (eq_by_cmp prefix_cmp found.0.0.prefix) listed)) passes).1 in
    let prefixes : stays.0 ≡ found.0.0.prefix = sym (found.2 ∙ ap (λ (k : RibKey). k.prefix) keys) in
    both_ways (list_any (eq_by_cmp prefix_cmp found.0.0.prefix) listed) fails (contains_any prefix_cmp prefix_order found.0.0.prefix listed (subst (λ (p : Cidr). Contains listed p) prefixes stays.1))

-- what is cut or put is touched
pub gone_touched : (m : PlainState) (vrf : ℕ) (client : Client) (rs : List (Cidr × Via)) (taken : List Cidr) → taken ≡ map (λ e. e.0.prefix) (filter (λ e. is_unlisted vrf client (map (λ r. r.0) rs) e.0) m.routes) → (n : ℕ) → IsRouteNumber vrf client taken n → Contains (map rib_number (keys_there m vrf client ++ keys_listed vrf client rs)) n
gone_touched m vrf client rs taken is n cut =
    let listed : List Cidr = map (λ r. r.0) rs in
    let test : RibKey × RouteRec → Bool = λ e. is_unlisted vrf client listed e.0 in
    let has : Contains (map (λ e. e.0.prefix) (filter test m.routes)) cut.0 = subst (λ (l : List Cidr). Contains l cut.0) is cut.1 in
    let found = contains_map (λ (e : RibKey × RouteRec). e.0.prefix) (filter test m.routes) cut.0 has in
    let both = contains_filter test m.routes found.0 found.1 in
    let own : is_route_of vrf client found.0.0 ≡ true = (and_parts (is_route_of vrf client found.0.0) (not (list_any (eq_by_cmp prefix_cmp found.0.0.prefix) listed)) both.1).0 in
    let key : found.0.0 ≡ key_of vrf client cut.0 = own_key vrf client found.0.0 own ∙ ap (key_of vrf client) found.2 in
    let there : Contains (keys_there m vrf client) found.0.0 = map_contains (λ (e : RibKey × RouteRec). e.0) (filter (λ e. is_route_of vrf client e.0) m.routes) found.0 (filter_contains (λ (e : RibKey × RouteRec). is_route_of vrf client e.0) m.routes found.0 both.0 own) in
    let touched : Contains (keys_there m vrf client ++ keys_listed vrf client rs) (key_of vrf client cut.0) = Contains-append_left (keys_there m vrf client) (keys_listed vrf client rs) (key_of vrf client cut.0) (subst (λ (k : RibKey). Contains (keys_there m vrf client) k) key there) in
    subst (λ (k : ℕ). Contains (map rib_number (keys_there m vrf client ++ keys_listed vrf client rs)) k) cut.3 (map_contains rib_number (keys_there m vrf client ++ keys_listed vrf client rs) (key_of vrf client cut.0) touched)

pub listed_touched : (m : PlainState) (vrf : ℕ) (client : Client) (rs : List (Cidr × Via)) (n : ℕ) → IsRouteNumber vrf client (map (λ r. r.0) rs) n → Contains (map rib_number (keys_there m vrf client ++ keys_listed vrf client rs)) n
listed_touched m vrf client rs n stays =
    let found = contains_map (λ (r : Cidr × Via). r.0) rs stays.0 stays.1 in
    let listed : Contains (keys_listed vrf client rs) (key_of vrf client found.0.0) = map_contains (λ (r : Cidr × Via). key_of vrf client r.0) rs found.0 found.1 in
    let here : Contains (keys_listed vrf client rs) (key_of vrf client stays.0) = subst (λ (p : Cidr). Contains (keys_listed vrf client rs) (key_of vrf client p)) found.2 listed in
    let touched : Contains (keys_there m vrf client ++ keys_listed vrf client rs) (key_of vrf client stays.0) = Contains-append_right (keys_there m vrf client) (keys_listed vrf client rs) (key_of vrf client stays.0) here in
    subst (λ (k : ℕ). Contains (map rib_number (keys_there m vrf client ++ keys_listed vrf client rs)) k) stays.3 (map_contains rib_number (keys_there m vrf client ++ keys_listed vrf client rs) (key_of vrf client stays.0) touched)

same_unlisted : (vrf : ℕ) (client : Client) (set given : List Cidr) → ((p : Cidr) → Contains set p ↔ Contains given p) → (k : RibKey) → is_unlisted vrf client set k ≡ is_unlisted vrf client given k
same_unlisted vrf client set given members k = ap (λ (b : Bool). is_route_of vrf client k && not b) (any_same prefix_cmp prefix_order k.prefix set given (members k.prefix))

-- what isn't in the set isn't in the list
pub unlisted_listed : (vrf : ℕ) (client : Client) (set given : List Cidr) → ((p : Cidr) → Contains set p ↔ Contains given p) → (entries : Entries RouteRec) → unlisted_of vrf client set entries ≡ map (λ e. e.0.prefix) (filter (λ e. is_unlisted vrf client given e.0) (listed rib_of entries))
unlisted_listed vrf client set given members [] = refl
unlisted_listed vrf client set given members (e ∷ es) =
    let tests : is_unlisted vrf client set (rib_of e.0) ≡ is_unlisted vrf client given (rib_of e.0) = same_unlisted vrf client set given members (rib_of e.0) in
    by_bool (is_unlisted vrf client given (rib_of e.0))
    (λ h. let h2 : is_unlisted vrf client set (rib_of e.0) ≡ true = tests ∙ h in rw h (rw h2 (ap (λ l. (rib_of e.0).prefix ∷ l) (unlisted_listed vrf client set given members es))))
    (λ h. let h2 : is_unlisted vrf client set (rib_of e.0) ≡ false = tests ∙ h in rw h (rw h2 (unlisted_listed vrf client set given members es)))
