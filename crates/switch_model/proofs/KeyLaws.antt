-- The derived orders of keys are the written ones.
use Rattle.std.proofs.Common.{◌≡◌, refl, ap, ◌∙◌}
use Rattle.std.specs.Ordering.{nat_cmp, ordering_then}
use Rattle.net_types.specs.Cidr.{Cidr}
use Rattle.net_types.specs.KeyOrder.{ip_cmp, prefix_cmp}
use Rattle.net_types.specs.declared.client.Client.{Client}
use Rattle.net_types.specs.declared.client.Client.TheVariants.{Interface, Static, Openr, Ebgp, Ibgp}
use Rattle.net_types.specs.declared.ip.Ip.{Ip}
use Rattle.net_types.specs.declared.ip.Ip.TheVariants.{V4, V6}
use Rattle.net_types.specs.contracts.client.ClientOrd.TheImpl as client
use Rattle.net_types.specs.contracts.ip.IpOrd.TheImpl as ip
use Rattle.net_types.specs.contracts.prefix.PrefixOrd.TheImpl as prefix
use Rattle.switch_model.specs.declared.key.RibKey.{RibKey}
use Rattle.switch_model.specs.contracts.key.RibKeyOrd.TheImpl as rib
use Rattle.switch_model.specs.StateKeys.{client_cmp, rib_cmp}

ip_same : (a b : Ip) → ip.ghosts.cmp a b ≡ ip_cmp a b
ip_same (V4 n) (V4 m) = refl
ip_same (V4 n) (V6 m) = refl
ip_same (V6 n) (V4 m) = refl
ip_same (V6 n) (V6 m) = refl

prefix_same : (p q : Cidr) → prefix.ghosts.cmp p q ≡ prefix_cmp p q
prefix_same p q = ap (λ o. ordering_then o (nat_cmp p.len q.len)) (ip_same p.ip q.ip)

by_client : (P : Client → Type 0) → P Interface → P Static → P Openr → P Ebgp → P Ibgp → (c : Client) → P c
by_client P a b c d e Interface = a
by_client P a b c d e Static = b
by_client P a b c d e Openr = c
by_client P a b c d e Ebgp = d
by_client P a b c d e Ibgp = e

client_same : (a b : Client) → client.ghosts.cmp a b ≡ client_cmp a b
client_same Interface = by_client (λ b. client.ghosts.cmp Interface b ≡ client_cmp Interface b) refl refl refl refl refl
client_same Static = by_client (λ b. client.ghosts.cmp Static b ≡ client_cmp Static b) refl refl refl refl refl
client_same Openr = by_client (λ b. client.ghosts.cmp Openr b ≡ client_cmp Openr b) refl refl refl refl refl
client_same Ebgp = by_client (λ b. client.ghosts.cmp Ebgp b ≡ client_cmp Ebgp b) refl refl refl refl refl
client_same Ibgp = by_client (λ b. client.ghosts.cmp Ibgp b ≡ client_cmp Ibgp b) refl refl refl refl refl

pub rib_same : (a b : RibKey) → rib.ghosts.cmp a b ≡ rib_cmp a b
rib_same a b =
    ap (λ o. ordering_then (nat_cmp a.vrf b.vrf) (ordering_then o (client.ghosts.cmp a.client b.client))) (prefix_same a.prefix b.prefix)
    ∙ ap (λ o. ordering_then (nat_cmp a.vrf b.vrf) (ordering_then (prefix_cmp a.prefix b.prefix) o)) (client_same a.client b.client)
