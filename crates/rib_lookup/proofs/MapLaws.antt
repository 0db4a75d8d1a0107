-- What holds of the maps that best routes are looked up in, and what look-ups in them find.
use Rattle.std.proofs.Common.{◌≡◌, ℕ, ◌==◌, true, List, Option, Some, map, refl, sym, ap, ◌∙◌, subst, inl, inr}
use Rattle.std.specs.List.{All, Contains, flat_map, list_any}
use Rattle.std.specs.Option.{option_map}
use Rattle.std.specs.Ordering.{is_ge, is_gt, is_le, nat_cmp}
use Rattle.std.proofs.lemmas.Bool.{and_parts, and_from}
use Rattle.std.proofs.lemmas.Bool.Decides.{Decides-eqb}
use Rattle.std.proofs.lemmas.List.Elements.{All-contains, Contains-append_cases}
use Rattle.keyed.specs.Keyed.{Ascends, at}
use Rattle.keyed.specs.Members.{contains_flat_map, contains_map, flat_map_contains, map_contains}
use Rattle.keyed.specs.RangeLaws.{keys_of-past, keys_of-up_to}
use Rattle.keyed.specs.Ranges.{head_of, keys_of, keys_onward, keys_past, keys_up_to, last_of, onward, past, up_to}
use Rattle.keyed.specs.SetLaws.{ascends-set_of, contains_set_of, set_of_contains}
use Rattle.net_types.specs.Cidr.{Cidr}
use Rattle.net_types.specs.Prefix.{IsPrefix}
use Rattle.net_types.specs.Range.{IsIntf}
use Rattle.net_types.specs.declared.table.RouteKey.{RouteKey}
use Rattle.switch_model.specs.Addresses.{same_addr, subnets}
use Rattle.switch_model.specs.PlainState.{Rib}
use Rattle.switch_model.specs.StateKeys.{rib_cmp}
use Rattle.switch_model.specs.declared.key.RibKey.{RibKey}
use Rattle.switch_model.specs.declared.record.IntfRec.{IntfRec}
use Rattle.switch_model.specs.declared.record.RouteRec.{RouteRec}
use Rattle.node_core.specs.Node.{NodeView}
use Rattle.node_map.specs.TreeNode.{Entries}
use Rattle.state_keys.specs.KeyLaws.{intf_numbering, rib_numbering}
use Rattle.state_keys.specs.PartKeys.{intf_number, intf_of, rib_number, rib_of, IsIntfNumber, IsRib, IsRibNumber}
use Rattle.state_scan.specs.Listed.{listed}
use Rattle.state_scan.proofs.Listing.{ascends-listed, at_listed}
use Rattle.subnet_index.specs.declared.key.Subnet.{Subnet}
use Rattle.subnet_index.specs.SubnetKey.{IsSubnet, IsSubnetNumber, subnet_at, subnet_cmp, subnet_number, subnet_numbering, subnet_order}
use Rattle.subnet_index.specs.SubnetList.{subnets_by, subnets_in, subnets_of}
use Rattle.route_laws.specs.Match.{ArePrefixes}
use Rattle.route_laws.proofs.BestLaws.{has-best_keys}
use Rattle.route_laws.proofs.Finds.{any_has, has_any, same_addr-is, same_addr-refl}
use Rattle.rib_lookup.proofs.NumberedKeys.{all-filter, head-is, head-map, key_numbers, keys_listed, last-is, last-map, listed_keys, part_listed, part_numbers}
use Rattle.rib_lookup.proofs.ViewLaws.{same_keys}
use Rattle.rib_lookup.specs.Tables.{AreSubnets, AreTables, HasSubnet, key_of_rib, key_of_subnet, rib_over}

-- the subnets of the interfaces
module _ (intfs : List (ℕ × IntfRec)) (ns : List ℕ) (all : All IsSubnetNumber ns) (same : map subnet_at ns ≡ subnets_in intfs) where
  pub each_subnet : (key : Subnet) → Contains (subnets_in intfs) key → IsSubnet key
  each_subnet key has =
      let f = contains_map subnet_at ns key (subst (λ (l : List Subnet). Contains l key) (sym same) has) in
      let number : IsSubnetNumber f.0 = All-contains IsSubnetNumber ns f.0 all f.1 in
      subst IsSubnet f.2 number.key

  of_intf : (key : Subnet) → Contains (subnets_in intfs) key → HasSubnet intfs key
  of_intf key has =
      let f = contains_flat_map subnets_of intfs key (contains_set_of subnet_cmp subnet_order (flat_map subnets_of intfs) key has) in
      let e : ℕ × IntfRec = f.0 in
      let m = contains_map (λ p. record { vrf = e.1.vrf; prefix = p; intf = e.0 }) (subnets e.1.addrs) key f.2 in
      let k : Subnet = record { vrf = e.1.vrf; prefix = m.0; intf = e.0 } in
      let there : list_any (same_addr m.0) (subnets e.1.addrs) ≡ true = has_any (same_addr m.0) (subnets e.1.addrs) m.0 m.1 (same_addr-refl m.0) in
      let its : HasSubnet intfs k = record { intf = e.1; among = f.1; has = and_from (e.1.vrf == e.1.vrf) (list_any (same_addr m.0) (subnets e.1.addrs)) ((Decides-eqb e.1.vrf e.1.vrf).1 refl) there } in
      subst (HasSubnet intfs) m.2 its

  in_index : (key : Subnet) → HasSubnet intfs key → Contains (subnets_in intfs) key
  in_index key h =
      let parts = and_parts (h.intf.vrf == key.vrf) (list_any (same_addr key.prefix) (subnets h.intf.addrs)) h.has in
      let vrf : h.intf.vrf ≡ key.vrf = (Decides-eqb h.intf.vrf key.vrf).0 parts.0 in
      let p = any_has (same_addr key.prefix) (subnets h.intf.addrs) parts.1 in
      let prefix : key.prefix ≡ p.0 = same_addr-is key.prefix p.0 p.2 in
      let there : Contains (subnets_by h.intf.vrf key.intf h.intf.addrs) (record { vrf = h.intf.vrf; prefix = p.0; intf = key.intf }) = map_contains (λ p. record { vrf = h.intf.vrf; prefix = p; intf = key.intf }) (subnets h.intf.addrs) p.0 p.1 in
      let is : record { vrf = h.intf.vrf; prefix = p.0; intf = key.intf } ≡ key = ap (λ (n : ℕ). record { vrf = n; prefix = p.0; intf = key.intf }) vrf ∙ ap (λ (q : Cidr). record key { prefix = q }) (sym prefix) in
      set_of_contains subnet_cmp subnet_order (flat_map subnets_of intfs) key (flat_map_contains subnets_of intfs (key.intf, h.intf) key h.among (subst (λ (k : Subnet). Contains (subnets_by h.intf.vrf key.intf h.intf.addrs) k) is there))

  pub are_subnets : AreSubnets intfs (subnets_in intfs)
  are_subnets = record {
    ascend = ascends-set_of subnet_cmp subnet_order.total (flat_map subnets_of intfs);
    exact = λ key. (of_intf key, in_index key);
    bounded = λ key has. (each_subnet key has).intf;
  }

-- the routes
pub each_route : (es : Entries RouteRec) → All (λ e. IsRibNumber e.0) es → (key : RibKey) → Contains (keys_of (listed rib_of es)) key → IsRib key
each_route es all key has =
    let f = contains_map rib_of (keys_of es) key (subst (λ (l : List RibKey). Contains l key) (sym (listed_keys rib_of es)) has) in
    let number : IsRibNumber f.0 = All-contains IsRibNumber (keys_of es) f.0 (key_numbers IsRibNumber es all) f.1 in
    subst IsRib f.2 number.key

module _ (intfs : Entries IntfRec) (routes : Entries RouteRec) (index : List Subnet) (are : AreTables intfs routes index) (intfs_asc : Ascends nat_cmp intfs) (routes_asc : Ascends nat_cmp routes) (ns : List ℕ) (all : All IsSubnetNumber ns) (same : index ≡ map subnet_at ns) (rib : Rib) (view_is : rib_over intfs routes ≡ rib) where
  routes_by : Ascends rib_cmp (listed rib_of routes)
  routes_by = ascends-listed rib_numbering routes are.route_numbers routes_asc

  intfs_by : Ascends nat_cmp (listed intf_of intfs)
  intfs_by = ascends-listed intf_numbering intfs are.intf_numbers intfs_asc

  ns_are : map subnet_at ns ≡ subnets_in (listed intf_of intfs)
  ns_are = sym same ∙ are.subnets_are

  subnets_by_them : AreSubnets (listed intf_of intfs) (subnets_in (listed intf_of intfs))
  subnets_by_them = are_subnets (listed intf_of intfs) ns all ns_are

  prefixes_by : ArePrefixes (rib_over intfs routes)
  prefixes_by = record {
    prefixes = λ vrf prefix some.
        let key : RouteKey = record { vrf = vrf; prefix = prefix } in
        let s : Rib = rib_over intfs routes in
        elim (Contains-append_cases (map key_of_subnet (subnets_in s.intfs)) (map key_of_rib (keys_of s.routes)) key ((same_keys s (subnets_in s.intfs) routes_by intfs_by subnets_by_them key).1 (has-best_keys s key some))) [
          | inl h ↦ let m = contains_map key_of_subnet (subnets_in s.intfs) key h in subst (λ (k : RouteKey). IsPrefix k.prefix) m.2 (each_subnet s.intfs ns all ns_are m.0 m.1).prefix
          | inr h ↦ let m = contains_map key_of_rib (keys_of s.routes) key h in subst (λ (k : RouteKey). IsPrefix k.prefix) m.2 (each_route routes are.route_numbers m.0 m.1).prefix
        ];
  }

  pub shape-routes : Ascends rib_cmp rib.routes
  shape-routes = subst (λ (r : Rib). Ascends rib_cmp r.routes) view_is routes_by

  pub shape-intfs : Ascends nat_cmp rib.intfs
  shape-intfs = subst (λ (r : Rib). Ascends nat_cmp r.intfs) view_is intfs_by

  pub shape-subnets : AreSubnets rib.intfs (subnets_in rib.intfs)
  shape-subnets = subst (λ (r : Rib). AreSubnets r.intfs (subnets_in r.intfs)) view_is subnets_by_them

  pub shape-prefixes : ArePrefixes rib
  shape-prefixes = subst ArePrefixes view_is prefixes_by

-- what is looked up in the routes
module _ (intfs : Entries IntfRec) (es : Entries RouteRec) (all : All (λ e. IsRibNumber e.0) es) (rib : Rib) (view_is : rib_over intfs es ≡ rib) where
  in_view : (R : Type 0) (f : List (RibKey × RouteRec) → R) → f (listed rib_of es) ≡ f rib.routes
  in_view R f = ap (λ (r : Rib). f r.routes) view_is

  first_key : (xs : Entries RouteRec) → option_map (λ e. rib_of e.0) (head_of xs) ≡ head_of (keys_of (listed rib_of xs))
  first_key xs = head-map (λ e. rib_of e.0) xs ∙ ap head_of (keys_listed rib_of xs)

  last_key : (xs : Entries RouteRec) → option_map (λ e. rib_of e.0) (last_of xs) ≡ last_of (keys_of (listed rib_of xs))
  last_key xs = last-map (λ e. rib_of e.0) xs ∙ ap last_of (keys_listed rib_of xs)

  pub past-routes : (key : RibKey) → IsRib key → (n : ℕ) → n ≡ rib_number key → (found : Option (ℕ × NodeView RouteRec)) → found ≡ head_of (past nat_cmp n es) → option_map (λ e. rib_of e.0) found ≡ head_of (keys_past rib_cmp key (keys_of rib.routes))
  past-routes key range n number found is =
      ap (option_map (λ e. rib_of e.0)) (is ∙ ap (λ (m : ℕ). head_of (past nat_cmp m es)) number)
      ∙ first_key (past nat_cmp (rib_number key) es)
      ∙ ap (λ (l : List (RibKey × RouteRec)). head_of (keys_of l)) (part_listed rib_numbering key range is_gt es all)
      ∙ ap head_of (keys_of-past rib_cmp key (listed rib_of es))
      ∙ in_view _ (λ l. head_of (keys_past rib_cmp key (keys_of l)))

  pub last-routes : (key : RibKey) → IsRib key → (n : ℕ) → n ≡ rib_number key → (found : Option (ℕ × NodeView RouteRec)) → found ≡ last_of (up_to nat_cmp n es) → option_map (λ e. rib_of e.0) found ≡ last_of (keys_up_to rib_cmp key (keys_of rib.routes))
  last-routes key range n number found is =
      ap (option_map (λ e. rib_of e.0)) (is ∙ ap (λ (m : ℕ). last_of (up_to nat_cmp m es)) number)
      ∙ last_key (up_to nat_cmp (rib_number key) es)
      ∙ ap (λ (l : List (RibKey × RouteRec)). last_of (keys_of l)) (part_listed rib_numbering key range is_le es all)
      ∙ ap last_of (keys_of-up_to rib_cmp key (listed rib_of es))
      ∙ in_view _ (λ l. last_of (keys_up_to rib_cmp key (keys_of l)))

  pub first-routes : (walk : Entries RouteRec) → walk ≡ es → (found : Option (ℕ × NodeView RouteRec)) → found ≡ head_of walk → option_map (λ e. rib_of e.0) found ≡ head_of (keys_of rib.routes)
  first-routes walk over found is =
      ap (option_map (λ e. rib_of e.0)) (is ∙ ap head_of over) ∙ first_key es
      ∙ in_view _ (λ l. head_of (keys_of l))

  pub from-routes : (key : RibKey) → IsRib key → (n : ℕ) → n ≡ rib_number key → (walk : Entries RouteRec) → walk ≡ onward nat_cmp n es → (found : Option (ℕ × NodeView RouteRec)) → found ≡ head_of walk → option_map (λ e. (rib_of e.0, e.1.value)) found ≡ head_of (onward rib_cmp key rib.routes)
  from-routes key range n number walk over found is =
      ap (option_map (λ e. (rib_of e.0, e.1.value))) (is ∙ ap head_of (over ∙ ap (λ (m : ℕ). onward nat_cmp m es) number))
      ∙ head-map (λ (e : ℕ × NodeView RouteRec). (rib_of e.0, e.1.value)) (onward nat_cmp (rib_number key) es)
      ∙ ap head_of (part_listed rib_numbering key range is_ge es all)
      ∙ in_view _ (λ l. head_of (onward rib_cmp key l))

  -- and each number that is found is a route's
  pub after-route : (n : ℕ) (e : ℕ × NodeView RouteRec) → Some e ≡ head_of (past nat_cmp n es) → IsRibNumber e.0
  after-route n e is = head-is (λ e. IsRibNumber e.0) (past nat_cmp n es) e (all-filter (λ e. IsRibNumber e.0) (λ e. is_gt (nat_cmp e.0 n)) es all) is

  pub last-route : (n : ℕ) (e : ℕ × NodeView RouteRec) → Some e ≡ last_of (up_to nat_cmp n es) → IsRibNumber e.0
  last-route n e is = last-is (λ e. IsRibNumber e.0) (up_to nat_cmp n es) e (all-filter (λ e. IsRibNumber e.0) (λ e. is_le (nat_cmp e.0 n)) es all) is

  pub first-route : (walk : Entries RouteRec) → walk ≡ es → (e : ℕ × NodeView RouteRec) → Some e ≡ head_of walk → IsRibNumber e.0
  first-route walk over e is = head-is (λ e. IsRibNumber e.0) es e all (is ∙ ap head_of over)

  pub from-route : (n : ℕ) (walk : Entries RouteRec) → walk ≡ onward nat_cmp n es → (e : ℕ × NodeView RouteRec) → Some e ≡ head_of walk → IsRibNumber e.0
  from-route n walk over e is = head-is (λ e. IsRibNumber e.0) (onward nat_cmp n es) e (all-filter (λ e. IsRibNumber e.0) (λ e. is_ge (nat_cmp e.0 n)) es all) (is ∙ ap head_of over)

-- what is looked up in the subnets
module _ (intfs : Entries IntfRec) (routes : Entries RouteRec) (index : List Subnet) (are : AreTables intfs routes index) (ns : List ℕ) (all : All IsSubnetNumber ns) (same : index ≡ map subnet_at ns) (rib : Rib) (view_is : rib_over intfs routes ≡ rib) where
  index_is : map subnet_at ns ≡ subnets_in rib.intfs
  index_is = sym same ∙ are.subnets_are ∙ ap (λ (r : Rib). subnets_in r.intfs) view_is

  pub past-subnets : (key : Subnet) → IsSubnet key → (n : ℕ) → n ≡ subnet_number key → (found : Option ℕ) → found ≡ head_of (keys_past nat_cmp n ns) → option_map subnet_at found ≡ head_of (keys_past subnet_cmp key (subnets_in rib.intfs))
  past-subnets key range n number found is =
      ap (option_map subnet_at) (is ∙ ap (λ (m : ℕ). head_of (keys_past nat_cmp m ns)) number)
      ∙ head-map subnet_at (keys_past nat_cmp (subnet_number key) ns)
      ∙ ap head_of (part_numbers subnet_numbering key range is_gt ns all)
      ∙ ap (λ (l : List Subnet). head_of (keys_past subnet_cmp key l)) index_is

  pub last-subnets : (key : Subnet) → IsSubnet key → (n : ℕ) → n ≡ subnet_number key → (found : Option ℕ) → found ≡ last_of (keys_up_to nat_cmp n ns) → option_map subnet_at found ≡ last_of (keys_up_to subnet_cmp key (subnets_in rib.intfs))
  last-subnets key range n number found is =
      ap (option_map subnet_at) (is ∙ ap (λ (m : ℕ). last_of (keys_up_to nat_cmp m ns)) number)
      ∙ last-map subnet_at (keys_up_to nat_cmp (subnet_number key) ns)
      ∙ ap last_of (part_numbers subnet_numbering key range is_le ns all)
      ∙ ap (λ (l : List Subnet). last_of (keys_up_to subnet_cmp key l)) index_is

  pub first-subnets : (walk : List ℕ) → walk ≡ ns → (found : Option ℕ) → found ≡ head_of walk → option_map subnet_at found ≡ head_of (subnets_in rib.intfs)
  first-subnets walk over found is =
      ap (option_map subnet_at) (is ∙ ap head_of over) ∙ head-map subnet_at ns ∙ ap head_of index_is

  pub from-subnets : (key : Subnet) → IsSubnet key → (n : ℕ) → n ≡ subnet_number key → (walk : List ℕ) → walk ≡ keys_onward nat_cmp n ns → (found : Option ℕ) → found ≡ head_of walk → option_map subnet_at found ≡ head_of (keys_onward subnet_cmp key (subnets_in rib.intfs))
  from-subnets key range n number walk over found is =
      ap (option_map subnet_at) (is ∙ ap head_of (over ∙ ap (λ (m : ℕ). keys_onward nat_cmp m ns) number))
      ∙ head-map subnet_at (keys_onward nat_cmp (subnet_number key) ns)
      ∙ ap head_of (part_numbers subnet_numbering key range is_ge ns all)
      ∙ ap (λ (l : List Subnet). head_of (keys_onward subnet_cmp key l)) index_is

  pub after-subnet : (n x : ℕ) → Some x ≡ head_of (keys_past nat_cmp n ns) → IsSubnetNumber x
  after-subnet n x is = head-is IsSubnetNumber (keys_past nat_cmp n ns) x (all-filter IsSubnetNumber (λ k. is_gt (nat_cmp k n)) ns all) is

  pub last-subnet : (n x : ℕ) → Some x ≡ last_of (keys_up_to nat_cmp n ns) → IsSubnetNumber x
  last-subnet n x is = last-is IsSubnetNumber (keys_up_to nat_cmp n ns) x (all-filter IsSubnetNumber (λ k. is_le (nat_cmp k n)) ns all) is

  pub first-subnet : (walk : List ℕ) → walk ≡ ns → (x : ℕ) → Some x ≡ head_of walk → IsSubnetNumber x
  first-subnet walk over x is = head-is IsSubnetNumber ns x all (is ∙ ap head_of over)

  pub from-subnet : (n : ℕ) (walk : List ℕ) → walk ≡ keys_onward nat_cmp n ns → (x : ℕ) → Some x ≡ head_of walk → IsSubnetNumber x
  from-subnet n walk over x is = head-is IsSubnetNumber (keys_onward nat_cmp n ns) x (all-filter IsSubnetNumber (λ k. is_ge (nat_cmp k n)) ns all) (is ∙ ap head_of over)

-- the VRF of an interface
pub vrf-found : (intfs : Entries IntfRec) (routes : Entries RouteRec) → All (λ e. IsIntfNumber e.0) intfs → (rib : Rib) → rib_over intfs routes ≡ rib → (key n : ℕ) → IsIntf key → n ≡ intf_number key → (o : Option IntfRec) → o ≡ option_map (λ x. x.value) (at nat_cmp n intfs) → option_map (λ r. r.vrf) o ≡ option_map (λ r. r.vrf) (at nat_cmp key rib.intfs)
vrf-found intfs routes all rib view_is key n range number o is =
    ap (option_map (λ r. r.vrf)) (is ∙ ap (λ (m : ℕ). option_map (λ x. x.value) (at nat_cmp m intfs)) number ∙ sym (at_listed intf_numbering key intfs range all) ∙ ap (λ (r : Rib). at nat_cmp key r.intfs) view_is)
