-- The orders of the keys of neighbours and routes.
use Rattle.std.proofs.Common.{◌≡◌, ◌==◌, ℕ, ap, refl, sym, ◌∙◌, if◌then◌else◌}
use Rattle.std.specs.Ordering.{nat_cmp, ordering_then}
use Rattle.std.specs.declared.cmp.Ordering.{Ordering}
use Rattle.std.proofs.lemmas.Cmp.{nat_cmp_total, on_total, then_total}
use Rattle.keyed.specs.Keyed.{IsKeyOrder}
use Rattle.keyed.specs.KeyOrders.{nat_cmp-exact, then-exact}
use Rattle.net_types.specs.declared.client.Client.{Client}
use Rattle.net_types.specs.declared.client.Client.TheVariants.{Interface, Static, Openr, Ebgp, Ibgp}
use Rattle.net_types.specs.declared.ip.Ip.{Ip}
use Rattle.net_types.specs.Cidr.{Cidr}
use Rattle.net_types.specs.Clients.{client_number}
use Rattle.net_types.specs.KeyOrder.{ip_cmp, ip_order, prefix_cmp, prefix_order}
use Rattle.switch_model.specs.declared.key.NeighborKey.{NeighborKey}
use Rattle.switch_model.specs.declared.key.RibKey.{RibKey}

-- by interface, and then by ip
abbrev pub neighbor_cmp : NeighborKey → NeighborKey → Ordering
neighbor_cmp a b = ordering_then (nat_cmp a.intf b.intf) (ip_cmp a.ip b.ip)

pub neighbor_order : IsKeyOrder neighbor_cmp
neighbor_order = record {
  total = then_total (on_total (λ (k : NeighborKey). k.intf) nat_cmp_total) (on_total (λ (k : NeighborKey). k.ip) ip_order.total);
  exact = λ x y h. let both = then-exact _ _ h in let intf : x.intf ≡ y.intf = nat_cmp-exact _ _ both.0 in let ip : x.ip ≡ y.ip = ip_order.exact _ _ both.1 in ap (λ (n : ℕ). record x { intf = n }) intf ∙ ap (λ (i : Ip). record y { ip = i }) ip;
}

-- clients in the order of their numbers
abbrev pub client_cmp : Client → Client → Ordering
client_cmp a b = nat_cmp (client_number a) (client_number b)

-- by VRF, then by prefix, and then by client
abbrev pub rib_cmp : RibKey → RibKey → Ordering
rib_cmp a b = ordering_then (nat_cmp a.vrf b.vrf) (ordering_then (prefix_cmp a.prefix b.prefix) (client_cmp a.client b.client))

-- the client with that number
abbrev client_by : ℕ → Client
client_by n = if n == 0 then Interface else (if n == 1 then Static else (if n == 2 then Openr else (if n == 3 then Ebgp else Ibgp)))

numbered : (client : Client) → client_by (client_number client) ≡ client
numbered Interface = refl
numbered Static = refl
numbered Openr = refl
numbered Ebgp = refl
numbered Ibgp = refl

same_client : (x y : Client) → client_number x ≡ client_number y → x ≡ y
same_client x y h = sym (numbered x) ∙ ap client_by h ∙ numbered y

pub rib_order : IsKeyOrder rib_cmp
rib_order = record {
  total = then_total (on_total (λ (k : RibKey). k.vrf) nat_cmp_total) (then_total (on_total (λ (k : RibKey). k.prefix) prefix_order.total) (on_total (λ (k : RibKey). client_number k.client) nat_cmp_total));
  exact = λ x y h. let first = then-exact _ _ h in let rest = then-exact _ _ first.1 in
      let vrf : x.vrf ≡ y.vrf = nat_cmp-exact _ _ first.0 in
      let prefix : x.prefix ≡ y.prefix = prefix_order.exact _ _ rest.0 in
      let client : x.client ≡ y.client = same_client _ _ (nat_cmp-exact _ _ rest.1) in
      ap (λ (n : ℕ). record x { vrf = n }) vrf ∙ ap (λ (p : Cidr). record x { vrf = y.vrf; prefix = p }) prefix ∙ ap (λ (c : Client). record y { client = c }) client;
}
