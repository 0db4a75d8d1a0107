-- Routes and subnets are ordered by prefix and then by client or interface.
use Rattle.std.proofs.Common.{◌≡◌, ◌≤◌, ℕ, true, List, refl, sym, ap, arith}
use Rattle.std.specs.List.{Contains}
use Rattle.std.specs.Ordering.{nat_cmp, ordering_then, is_le}
use Rattle.std.specs.declared.cmp.Ordering.{Ordering}
use Rattle.std.specs.declared.cmp.Ordering.TheVariants.{Less, Equal, Greater}
use Rattle.std.proofs.lemmas.Cmp.{ranked}
use Rattle.net_types.specs.declared.client.Client.{Client}
use Rattle.net_types.specs.declared.client.Client.TheVariants.{Interface, Static, Openr, Ebgp, Ibgp}
use Rattle.net_types.specs.Clients.{client_number}
use Rattle.net_types.specs.KeyOrder.{prefix_cmp}
use Rattle.net_types.specs.Range.{IsIntf}
use Rattle.switch_model.specs.declared.key.RibKey.{RibKey}
use Rattle.switch_model.specs.StateKeys.{client_cmp, rib_cmp, rib_order}
use Rattle.subnet_index.specs.declared.key.Subnet.{Subnet}
use Rattle.subnet_index.specs.SubnetKey.{subnet_cmp, subnet_order}
use Rattle.rib_lookup.specs.Over.{IsOver}
use Rattle.rib_lookup.specs.Tables.{key_of_subnet, key_of_rib, with_client, rib_rest, with_intf, subnet_rest}

then_assoc : (o p q : Ordering) → ordering_then o (ordering_then p q) ≡ ordering_then (ordering_then o p) q
then_assoc Less p q = refl
then_assoc Equal p q = refl
then_assoc Greater p q = refl

le_rank : (x y : ℕ) → x ≤ y → is_le (nat_cmp x y) ≡ true
le_rank x y le = by (nat_cmp x y) refl
  where
    by : (o : Ordering) → o ≡ nat_cmp x y → is_le (nat_cmp x y) ≡ true
    by Less is = ap is_le (sym is)
    by Equal is = ap is_le (sym is)
    by Greater is = absurd (omega (arith, le, ranked x y Greater is))

-- routes
most_client : (client : Client) → client_number client ≤ 4
most_client Interface = omega arith
most_client Static = omega arith
most_client Openr = omega arith
most_client Ebgp = omega arith
most_client Ibgp = omega arith

pub routes_over : (keys : List RibKey) → IsOver rib_cmp rib_rest key_of_rib (with_client Interface) (with_client Ibgp) keys
routes_over keys = record {
  order = rib_order;
  splits = λ x y. then_assoc (nat_cmp x.vrf y.vrf) (prefix_cmp x.prefix y.prefix) (client_cmp x.client y.client);
  low_is = λ k. refl;
  high_is = λ k. refl;
  least = λ k x _. le_rank 0 (client_number x.client) (omega arith);
  most = λ k x _. le_rank (client_number x.client) 4 (most_client x.client);
}

-- subnets
pub subnets_over : (keys : List Subnet) → ((key : Subnet) → Contains keys key → IsIntf key.intf) → IsOver subnet_cmp subnet_rest key_of_subnet (with_intf 1) (with_intf 4294967295) keys
subnets_over keys bounded = record {
  order = subnet_order;
  splits = λ x y. then_assoc (nat_cmp x.vrf y.vrf) (prefix_cmp x.prefix y.prefix) (nat_cmp x.intf y.intf);
  low_is = λ k. refl;
  high_is = λ k. refl;
  least = λ k x has. le_rank 1 x.intf (bounded x has).0;
  most = λ k x has. le_rank x.intf 4294967295 (bounded x has).1;
}
