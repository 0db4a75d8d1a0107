-- Look-ups in both tables.
use Rattle.std.proofs.Common.{◌≡◌, not, ℕ, Bool, true, Option, None, Some, List, [], ◌∷◌, ◌++◌, map, refl, sym, ap, ◌∙◌, subst, inl, inr}
use Rattle.std.specs.List.{AllByRecursion, Contains, find, flat_map, reduce}
use Rattle.std.specs.List.Sorted.{IsStrictlySortedBy}
use Rattle.std.specs.Option.{option_map}
use Rattle.std.specs.Ordering.{nat_cmp, is_lt}
use Rattle.std.specs.declared.cmp.Ordering.TheVariants.{Less}
use Rattle.std.proofs.lemmas.List.Elements.{Contains-append_left, Contains-append_right, Contains-append_cases}
use Rattle.keyed.specs.Keyed.{Ascends, IsBelow}
use Rattle.keyed.specs.Least.{lesser}
use Rattle.keyed.specs.Members.{map_contains}
use Rattle.keyed.specs.Ranges.{keys_of}
use Rattle.keyed.specs.SetLaws.{set_of_contains, contains_set_of}
use Rattle.net_types.specs.declared.client.Client.TheVariants.{Interface, Ibgp}
use Rattle.net_types.specs.declared.table.RouteKey.{RouteKey}
use Rattle.net_types.specs.KeyOrder.{route_cmp, route_order}
use Rattle.switch_model.specs.declared.key.RibKey.{RibKey}
use Rattle.switch_model.specs.declared.record.IntfRec.{IntfRec}
use Rattle.switch_model.specs.declared.record.RouteRec.{RouteRec}
use Rattle.switch_model.specs.BestRoute.{connected_first, connected_to, has_subnet_in, nearer, routes_to}
use Rattle.switch_model.specs.LongestMatch.{best_keys, connected_keys, routed_key}
use Rattle.switch_model.specs.Looking.{is_past, key_after}
use Rattle.switch_model.specs.PlainState.{Rib}
use Rattle.switch_model.specs.StateKeys.{rib_cmp, rib_order}
use Rattle.route_laws.proofs.BestLaws.{best_keys-ascend, connected_has, has_connected}
use Rattle.route_laws.proofs.Finds.{map_some, some_map, some_find}
use Rattle.route_laws.specs.Descent.{last_of, last_to, up_to}
use Rattle.subnet_index.specs.declared.key.Subnet.{Subnet}
use Rattle.subnet_index.specs.SubnetKey.{subnet_cmp, subnet_order}
use Rattle.rib_lookup.proofs.Firsts.{first-or, or-first, first-both}
use Rattle.rib_lookup.proofs.OverLaws.{last-over, last_over-none, first-over, lt_high}
use Rattle.rib_lookup.proofs.RouteTable.{kept, nearest-first}
use Rattle.rib_lookup.proofs.SubnetTable.{subnet-has, intf_kept, connected-first}
use Rattle.rib_lookup.proofs.TableOrders.{routes_over, subnets_over}
use Rattle.rib_lookup.proofs.UnionLaws.{SameKeys, first-same, last-same, IsLastOr, last-or, or-last, last-both}
use Rattle.rib_lookup.specs.Over.{IsOver, greater}
use Rattle.rib_lookup.specs.Tables.{AreSubnets, key_of_subnet, key_of_rib, with_client, rib_rest, with_intf, subnet_rest}

-- the keys of entries ascend
keys_above : (key : RibKey) (entries : List (RibKey × RouteRec)) → IsBelow rib_cmp key entries → Ascends rib_cmp entries → AllByRecursion (λ y. rib_cmp key y ≡ Less) (keys_of entries)
keys_above key [] below asc = tt
keys_above key (e ∷ es) below asc = (below, all_past es (keys_above e.0 es asc.0 asc.1))
  where
    all_past : (l : List (RibKey × RouteRec)) → AllByRecursion (λ y. rib_cmp e.0 y ≡ Less) (keys_of l) → AllByRecursion (λ y. rib_cmp key y ≡ Less) (keys_of l)
    all_past [] all = tt
    all_past (x ∷ xs) all = (rib_order.total.trans key e.0 x.0 below all.0, all_past xs all.1)

pub keys-ascend : (entries : List (RibKey × RouteRec)) → Ascends rib_cmp entries → IsStrictlySortedBy rib_cmp (keys_of entries)
unfolding IsStrictlySortedBy
keys-ascend [] asc = tt
keys-ascend (e ∷ es) asc = (keys_above e.0 es asc.0 asc.1, keys-ascend es asc.1)

map_keys : (entries : List (RibKey × RouteRec)) → map key_of_rib (keys_of entries) ≡ map routed_key entries
map_keys [] = refl
map_keys (e ∷ es) = ap (λ (l : List RouteKey). routed_key e ∷ l) (map_keys es)

module _ (rib : Rib) (subnets : List Subnet) (routes_asc : Ascends rib_cmp rib.routes) (intfs_asc : Ascends nat_cmp rib.intfs) (are : AreSubnets rib.intfs subnets) where
  both_keys : List RouteKey
  both_keys = map key_of_subnet subnets ++ map key_of_rib (keys_of rib.routes)

  -- both tables have the keys that have a best route
  subnets_connected : (k : RouteKey) → Contains (map key_of_subnet subnets) k → Contains (flat_map connected_keys rib.intfs) k
  subnets_connected k has = has_connected rib k (map_some (λ (e : ℕ × IntfRec). e.0) (find (has_subnet_in k.vrf k.prefix) rib.intfs) (subnet-has rib.intfs subnets intfs_asc are k k has))

  connected_subnets : (k : RouteKey) → Contains (flat_map connected_keys rib.intfs) k → Contains (map key_of_subnet subnets) k
  connected_subnets k has =
      let e = some_find (has_subnet_in k.vrf k.prefix) rib.intfs (some_map (λ (x : ℕ × IntfRec). x.0) (find (has_subnet_in k.vrf k.prefix) rib.intfs) (connected_has rib k has)) in
      map_contains key_of_subnet subnets (with_intf e.0.0 k) ((are.exact (with_intf e.0.0 k)).1 (record { intf = e.0.1; among = e.1; has = e.2 }))

  pub same_keys : SameKeys route_cmp route_order (map key_of_subnet subnets ++ map key_of_rib (keys_of rib.routes)) (best_keys rib)
  same_keys k = (
    (λ has. set_of_contains route_cmp route_order (flat_map connected_keys rib.intfs ++ map routed_key rib.routes) k (elim (Contains-append_cases (map key_of_subnet subnets) (map key_of_rib (keys_of rib.routes)) k has) [
      | inl s ↦ Contains-append_left (flat_map connected_keys rib.intfs) (map routed_key rib.routes) k (subnets_connected k s)
      | inr r ↦ Contains-append_right (flat_map connected_keys rib.intfs) (map routed_key rib.routes) k (subst (λ (l : List RouteKey). Contains l k) (map_keys rib.routes) r)
    ])),
    (λ has. elim (Contains-append_cases (flat_map connected_keys rib.intfs) (map routed_key rib.routes) k (contains_set_of route_cmp route_order (flat_map connected_keys rib.intfs ++ map routed_key rib.routes) k has)) [
      | inl s ↦ Contains-append_left (map key_of_subnet subnets) (map key_of_rib (keys_of rib.routes)) k (connected_subnets k s)
      | inr r ↦ Contains-append_right (map key_of_subnet subnets) (map key_of_rib (keys_of rib.routes)) k (subst (λ (l : List RouteKey). Contains l k) (sym (map_keys rib.routes)) r)
    ]),
  )

  over_s : IsOver subnet_cmp subnet_rest key_of_subnet (with_intf 1) (with_intf 4294967295) subnets
  over_s = subnets_over subnets are.bounded

  over_r : IsOver rib_cmp rib_rest key_of_rib (with_client Interface) (with_client Ibgp) (keys_of rib.routes)
  over_r = routes_over (keys_of rib.routes)

  -- the last key up to a bound
  last_s : (b : RouteKey) (found : Option Subnet) → IsLastOr subnet_cmp subnet_order (with_intf 4294967295 b) subnets found → IsLastOr route_cmp route_order b (map key_of_subnet subnets) (option_map key_of_subnet found)
  last_s b None none = last_over-none subnet_cmp subnet_rest key_of_subnet (with_intf 1) (with_intf 4294967295) subnets over_s b none
  last_s b (Some x) l = last-over subnet_cmp subnet_rest key_of_subnet (with_intf 1) (with_intf 4294967295) subnets over_s b x l

  last_r : (b : RouteKey) (found : Option RibKey) → IsLastOr rib_cmp rib_order (with_client Ibgp b) (keys_of rib.routes) found → IsLastOr route_cmp route_order b (map key_of_rib (keys_of rib.routes)) (option_map key_of_rib found)
  last_r b None none = last_over-none rib_cmp rib_rest key_of_rib (with_client Interface) (with_client Ibgp) (keys_of rib.routes) over_r b none
  last_r b (Some x) l = last-over rib_cmp rib_rest key_of_rib (with_client Interface) (with_client Ibgp) (keys_of rib.routes) over_r b x l

  pub last-in_both : (b : RouteKey) (s : Option Subnet) (r : Option RibKey) → s ≡ last_of (up_to subnet_cmp (with_intf 4294967295 b) subnets) → r ≡ last_of (up_to rib_cmp (with_client Ibgp b) (keys_of rib.routes)) → greater route_cmp (option_map key_of_subnet s) (option_map key_of_rib r) ≡ last_to b (best_keys rib)
  last-in_both b s r is_s is_r =
      let of_s = last_s b s (last-or subnet_cmp subnet_order (with_intf 4294967295 b) subnets s are.ascend is_s) in
      let of_r = last_r b r (last-or rib_cmp rib_order (with_client Ibgp b) (keys_of rib.routes) r (keys-ascend rib.routes routes_asc) is_r) in
      or-last route_cmp route_order b (best_keys rib) (greater route_cmp (option_map key_of_subnet s) (option_map key_of_rib r)) (best_keys-ascend rib)
      (last-same route_cmp route_order b (map key_of_subnet subnets ++ map key_of_rib (keys_of rib.routes)) (best_keys rib) (greater route_cmp (option_map key_of_subnet s) (option_map key_of_rib r)) same_keys
      (last-both route_cmp route_order b (map key_of_subnet subnets) (map key_of_rib (keys_of rib.routes)) (option_map key_of_subnet s) (option_map key_of_rib r) of_s of_r))

  -- the first key that passes a test of its prefix
  pub first-in_both : (test_s : Subnet → Bool) (test_r : RibKey → Bool) (passes : RouteKey → Bool) → ((x : Subnet) → Contains subnets x → test_s x ≡ passes (key_of_subnet x)) → ((x : RibKey) → Contains (keys_of rib.routes) x → test_r x ≡ passes (key_of_rib x)) →
      (s : Option Subnet) (r : Option RibKey) → s ≡ find test_s subnets → r ≡ find test_r (keys_of rib.routes) → lesser route_cmp (option_map key_of_subnet s) (option_map key_of_rib r) ≡ find passes (best_keys rib)
  first-in_both test_s test_r passes agree_s agree_r s r is_s is_r =
      let of_s = first-over subnet_cmp subnet_rest key_of_subnet (with_intf 1) (with_intf 4294967295) subnets over_s test_s passes agree_s s (first-or subnet_cmp subnet_order test_s subnets s are.ascend is_s) in
      let of_r = first-over rib_cmp rib_rest key_of_rib (with_client Interface) (with_client Ibgp) (keys_of rib.routes) over_r test_r passes agree_r r (first-or rib_cmp rib_order test_r (keys_of rib.routes) r (keys-ascend rib.routes routes_asc) is_r) in
      or-first route_cmp route_order passes (best_keys rib) (lesser route_cmp (option_map key_of_subnet s) (option_map key_of_rib r)) (best_keys-ascend rib)
      (first-same route_cmp route_order passes (map key_of_subnet subnets ++ map key_of_rib (keys_of rib.routes)) (best_keys rib) (lesser route_cmp (option_map key_of_subnet s) (option_map key_of_rib r)) same_keys
      (first-both route_cmp route_order passes (map key_of_subnet subnets) (map key_of_rib (keys_of rib.routes)) (option_map key_of_subnet s) (option_map key_of_rib r) of_s of_r))

  -- past a key
  pub after-in_both : (b : RouteKey) (s : Option Subnet) (r : Option RibKey) → s ≡ find (λ k. is_lt (subnet_cmp (with_intf 4294967295 b) k)) subnets → r ≡ find (λ k. is_lt (rib_cmp (with_client Ibgp b) k)) (keys_of rib.routes) → lesser route_cmp (option_map key_of_subnet s) (option_map key_of_rib r) ≡ key_after (Some b) (best_keys rib)
  after-in_both b s r is_s is_r = first-in_both (λ k. is_lt (subnet_cmp (with_intf 4294967295 b) k)) (λ k. is_lt (rib_cmp (with_client Ibgp b) k)) (is_past (Some b))
      (λ x has. lt_high subnet_cmp subnet_rest key_of_subnet (with_intf 1) (with_intf 4294967295) subnets over_s b x has)
      (λ x has. lt_high rib_cmp rib_rest key_of_rib (with_client Interface) (with_client Ibgp) (keys_of rib.routes) over_r b x has)
      s r is_s is_r

-- of all
pub first-of_all : (rib : Rib) (subnets : List Subnet) → Ascends rib_cmp rib.routes → Ascends nat_cmp rib.intfs → AreSubnets rib.intfs subnets → (s : Option Subnet) (r : Option RibKey) → s ≡ find (λ _. true) subnets → r ≡ find (λ _. true) (keys_of rib.routes) → lesser route_cmp (option_map key_of_subnet s) (option_map key_of_rib r) ≡ key_after None (best_keys rib)
first-of_all rib subnets routes_asc intfs_asc are s r is_s is_r = first-in_both rib subnets routes_asc intfs_asc are (λ _. true) (λ _. true) (is_past None) (λ x has. refl) (λ x has. refl) s r is_s is_r

-- the nearest route, and the interface of a subnet
pub nearest-is : (rib : Rib) (key : RouteKey) → Ascends rib_cmp rib.routes → (found : Option (RibKey × RouteRec)) → found ≡ find (λ e. not (is_lt (rib_cmp e.0 (with_client Interface key)))) rib.routes → connected_first None (kept key found) ≡ connected_first None (reduce nearer (routes_to rib key.vrf key.prefix))
nearest-is rib key asc found is = ap (λ o. connected_first None (kept key o)) is ∙ ap (connected_first None) (sym (nearest-first key rib.routes asc))

pub connected-is : (rib : Rib) (subnets : List Subnet) (key : RouteKey) → Ascends nat_cmp rib.intfs → AreSubnets rib.intfs subnets → (found : Option Subnet) → found ≡ find (λ k. not (is_lt (subnet_cmp k (with_intf 1 key)))) subnets → intf_kept key found ≡ connected_to rib key.vrf key.prefix
connected-is rib subnets key asc are found is = sym (connected-first rib.intfs subnets asc are key found is)
