-- What the look-ups of one prefix answer.
use Rattle.std.proofs.Common.{◌≡◌, not, Bool, true, false, Option, None, Some, List, if◌then◌else◌, sym, ap, ◌∙◌}
use Rattle.std.specs.List.{find, reduce}
use Rattle.std.specs.Option.{option_map}
use Rattle.std.specs.Ordering.{nat_cmp, is_lt}
use Rattle.keyed.specs.Keyed.{Ascends}
use Rattle.keyed.specs.Least.{lesser}
use Rattle.keyed.specs.Ranges.{head_of, keys_of, keys_onward, keys_past, keys_up_to, onward}
use Rattle.keyed.specs.Ranges as ranges
use Rattle.net_types.specs.declared.client.Client.TheVariants.{Interface, Ibgp}
use Rattle.net_types.specs.declared.table.RouteKey.{RouteKey}
use Rattle.switch_model.specs.declared.key.RibKey.{RibKey}
use Rattle.switch_model.specs.declared.record.RouteRec.{RouteRec}
use Rattle.switch_model.specs.BestRoute.{connected_first, connected_to, learnt, nearer, routes_to}
use Rattle.switch_model.specs.LongestMatch.{best_keys}
use Rattle.switch_model.specs.Looking.{key_after}
use Rattle.switch_model.specs.PlainState.{Rib}
use Rattle.net_types.specs.KeyOrder.{route_cmp}
use Rattle.route_laws.specs.Descent.{last_of, last_to, up_to}
use Rattle.switch_model.specs.StateKeys.{rib_cmp, rib_order}
use Rattle.subnet_index.specs.declared.key.Subnet.{Subnet}
use Rattle.subnet_index.specs.SubnetKey.{subnet_cmp, subnet_order}
use Rattle.rib_lookup.proofs.Bounds.{entry_onward-find, head-all, last-up_to, onward-find, past-find}
use Rattle.rib_lookup.proofs.RouteTable.{same_key}
use Rattle.rib_lookup.proofs.SubnetTable.{intf_kept}
use Rattle.rib_lookup.proofs.ViewLaws.{nearest-is, connected-is, first-of_all, after-in_both, keys-ascend, last-in_both}
use Rattle.rib_lookup.specs.Over.{greater}
use Rattle.rib_lookup.specs.Tables.{AreSubnets, key_of_subnet, key_of_rib, with_client, with_intf}

module _ (rib : Rib) (subnets : List Subnet) (key : RouteKey) (asc : Ascends nat_cmp rib.intfs) (are : AreSubnets rib.intfs subnets) (low : Subnet) (low_is : low ≡ with_intf 1 key) where
  found-by : (found : Option Subnet) → found ≡ head_of (keys_onward subnet_cmp low subnets) → intf_kept key found ≡ connected_to rib key.vrf key.prefix
  found-by found is = connected-is rib subnets key asc are found (is ∙ onward-find subnet_cmp low subnets ∙ ap (λ (l : Subnet). find (λ k. not (is_lt (subnet_cmp k l))) subnets) low_is)

  pub connected-none : None ≡ head_of (keys_onward subnet_cmp low subnets) → None ≡ connected_to rib key.vrf key.prefix
  connected-none is = found-by None is

  pub connected-other : (k : Subnet) → Some k ≡ head_of (keys_onward subnet_cmp low subnets) → same_key key (key_of_subnet k) ≡ false → None ≡ connected_to rib key.vrf key.prefix
  connected-other k is other = ap (λ (b : Bool). if b then Some k.intf else None) (sym other) ∙ found-by (Some k) is

  pub connected-found : (k : Subnet) → Some k ≡ head_of (keys_onward subnet_cmp low subnets) → same_key key (key_of_subnet k) ≡ true → Some k.intf ≡ connected_to rib key.vrf key.prefix
  connected-found k is same = ap (λ (b : Bool). if b then Some k.intf else None) (sym same) ∙ found-by (Some k) is

module _ (rib : Rib) (key : RouteKey) (asc : Ascends rib_cmp rib.routes) where
  pub nearest-none : None ≡ head_of (onward rib_cmp (with_client Interface key) rib.routes) → None ≡ connected_first None (reduce nearer (routes_to rib key.vrf key.prefix))
  nearest-none is = nearest-is rib key asc None (is ∙ entry_onward-find rib_cmp (with_client Interface key) rib.routes)

  pub nearest-other : (e : RibKey × RouteRec) → Some e ≡ head_of (onward rib_cmp (with_client Interface key) rib.routes) → same_key key (key_of_rib e.0) ≡ false → None ≡ connected_first None (reduce nearer (routes_to rib key.vrf key.prefix))
  nearest-other e is other = ap (λ (b : Bool). connected_first None (if b then Some e else None)) (sym other) ∙ nearest-is rib key asc (Some e) (is ∙ entry_onward-find rib_cmp (with_client Interface key) rib.routes)

  pub nearest-found : (e : RibKey × RouteRec) → Some e ≡ head_of (onward rib_cmp (with_client Interface key) rib.routes) → same_key key (key_of_rib e.0) ≡ true → Some (learnt e.0.client e.1) ≡ connected_first None (reduce nearer (routes_to rib key.vrf key.prefix))
  nearest-found e is same = ap (λ (b : Bool). connected_first None (if b then Some e else None)) (sym same) ∙ nearest-is rib key asc (Some e) (is ∙ entry_onward-find rib_cmp (with_client Interface key) rib.routes)

module _ (rib : Rib) (subnets : List Subnet) (routes_asc : Ascends rib_cmp rib.routes) (intfs_asc : Ascends nat_cmp rib.intfs) (are : AreSubnets rib.intfs subnets) where
  pub first-coded : (s : Option Subnet) (r : Option RibKey) (of_s of_r found : Option RouteKey) → s ≡ head_of subnets → r ≡ head_of (keys_of rib.routes) → of_s ≡ option_map key_of_subnet s → of_r ≡ option_map key_of_rib r → found ≡ lesser route_cmp of_s of_r → found ≡ key_after None (best_keys rib)
  first-coded s r of_s of_r found is_s is_r key_s key_r is = is ∙ ap (λ (o : Option RouteKey). lesser route_cmp o of_r) key_s ∙ ap (lesser route_cmp (option_map key_of_subnet s)) key_r ∙ first-of_all rib subnets routes_asc intfs_asc are s r (is_s ∙ head-all subnets) (is_r ∙ head-all (keys_of rib.routes))

  pub past-coded : (key : RouteKey) (high_s : Subnet) (high_r : RibKey) (s : Option Subnet) (r : Option RibKey) (of_s of_r found : Option RouteKey) → high_s ≡ with_intf 4294967295 key → high_r ≡ with_client Ibgp key → s ≡ head_of (keys_past subnet_cmp high_s subnets) → r ≡ head_of (keys_past rib_cmp high_r (keys_of rib.routes)) → of_s ≡ option_map key_of_subnet s → of_r ≡ option_map key_of_rib r → found ≡ lesser route_cmp of_s of_r → found ≡ key_after (Some key) (best_keys rib)
  past-coded key high_s high_r s r of_s of_r found s_is r_is is_s is_r key_s key_r is =
      is ∙ ap (λ (o : Option RouteKey). lesser route_cmp o of_r) key_s ∙ ap (lesser route_cmp (option_map key_of_subnet s)) key_r
      ∙ after-in_both rib subnets routes_asc intfs_asc are key s r (is_s ∙ past-find subnet_cmp subnet_order high_s subnets ∙ ap (λ (h : Subnet). find (λ k. is_lt (subnet_cmp h k)) subnets) s_is) (is_r ∙ past-find rib_cmp rib_order high_r (keys_of rib.routes) ∙ ap (λ (h : RibKey). find (λ k. is_lt (rib_cmp h k)) (keys_of rib.routes)) r_is)

  pub last-coded : (b : RouteKey) (high_s : Subnet) (high_r : RibKey) (s : Option Subnet) (r : Option RibKey) (of_s of_r found : Option RouteKey) → high_s ≡ with_intf 4294967295 b → high_r ≡ with_client Ibgp b → s ≡ ranges.last_of (keys_up_to subnet_cmp high_s subnets) → r ≡ ranges.last_of (keys_up_to rib_cmp high_r (keys_of rib.routes)) → of_s ≡ option_map key_of_subnet s → of_r ≡ option_map key_of_rib r → found ≡ greater route_cmp of_s of_r → found ≡ last_to b (best_keys rib)
  last-coded b high_s high_r s r of_s of_r found s_is r_is is_s is_r key_s key_r is =
      is ∙ ap (λ (o : Option RouteKey). greater route_cmp o of_r) key_s ∙ ap (greater route_cmp (option_map key_of_subnet s)) key_r
      ∙ last-in_both rib subnets routes_asc intfs_asc are b s r (is_s ∙ last-up_to subnet_cmp subnet_order high_s subnets are.ascend ∙ ap (λ (h : Subnet). last_of (up_to subnet_cmp h subnets)) s_is) (is_r ∙ last-up_to rib_cmp rib_order high_r (keys_of rib.routes) (keys-ascend rib.routes routes_asc) ∙ ap (λ (h : RibKey). last_of (up_to rib_cmp h (keys_of rib.routes))) r_is)
