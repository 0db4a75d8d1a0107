-- In a VRF a subnet is one interface's.
use Rattle.std.proofs.Common.{◌≡◌, ◌==◌, ℕ, min, true, false, List, Some, refl, sym, ap, ◌∙◌, inl, inr}
use Rattle.std.specs.List.{list_any, Contains, filter}
use Rattle.std.specs.Ordering.{nat_cmp}
use Rattle.std.proofs.lemmas.Bool.{and_parts, and_from, true≢false, false≢true}
use Rattle.std.proofs.lemmas.Bool.Decides.{Decides-eqb}
use Rattle.keyed.specs.KeyOrders.{nat_order}
use Rattle.keyed.specs.KeyedLaws.{by_order, decide}
use Rattle.keyed.specs.Members.{contains_map, contains_filter}
use Rattle.keyed.specs.ListLaws.{any_true}
use Rattle.net_types.specs.Address.{ip_width, first_bits}
use Rattle.net_types.specs.Cidr.{Cidr}
use Rattle.net_types.specs.KeyOrder.{prefix_cmp, prefix_order}
use Rattle.net_types.specs.Prefix.{overlaps, subnet_of}
use Rattle.switch_model.specs.declared.record.IntfRec.{IntfRec}
use Rattle.switch_model.specs.Addresses.{has_subnet, same_addr, subnets}
use Rattle.switch_model.specs.BestRoute.{has_subnet_in}
use Rattle.switch_model.specs.PlainState.{PlainState, intf_at}
use Rattle.switch_model.specs.Sound.{IsSound}
use Rattle.switch_laws.proofs.SoundLaws.{linked-from_sound}

same_prefix : (p q : Cidr) → same_addr p q ≡ true → p ≡ q
same_prefix p q h = by_order (prefix_cmp p q)
    (λ o. let no : false ≡ true = rw o at h in absurd (false≢true no))
    (λ o. prefix_order.exact p q o)
    (λ o. let no : false ≡ true = rw o at h in absurd (false≢true no))

overlaps_itself : (p : Cidr) → overlaps p p ≡ true
overlaps_itself p = and_from (ip_width p.ip == ip_width p.ip) (first_bits (min p.len p.len) p.ip == first_bits (min p.len p.len) p.ip) ((Decides-eqb _ _).1 refl) ((Decides-eqb _ _).1 refl)

-- the address that gives a subnet
record Giver (addrs : List Cidr) (p : Cidr) : Type 0 where
  addr : Cidr
  among : Contains addrs addr
  one : has_subnet addr ≡ true
  gives : subnet_of addr ≡ p

giver : (addrs : List Cidr) (p : Cidr) → list_any (same_addr p) (subnets addrs) ≡ true → Giver addrs p
giver addrs p h =
    let s = any_true (same_addr p) (subnets addrs) h in
    let x = contains_map subnet_of (filter has_subnet addrs) s.0 s.1 in
    let passes = contains_filter has_subnet addrs x.0 x.1 in
    record { addr = x.0; among = passes.0; one = passes.1; gives = x.2 ∙ sym (same_prefix p s.0 s.2) }

pub one_has : (m : PlainState) (vrf : ℕ) (p : Cidr) (i j : ℕ) (a b : IntfRec) → IsSound m → intf_at m i ≡ Some a → intf_at m j ≡ Some b → has_subnet_in vrf p (i, a) ≡ true → has_subnet_in vrf p (j, b) ≡ true → i ≡ j
one_has m vrf p i j a b sound at_i at_j in_a in_b = elim (decide nat_cmp nat_order i j) [
  | inl same ↦ same
  | inr other ↦
      let of_a = and_parts (a.vrf == vrf) (list_any (same_addr p) (subnets a.addrs)) in_a in
      let of_b = and_parts (b.vrf == vrf) (list_any (same_addr p) (subnets b.addrs)) in_b in
      let vrfs : a.vrf ≡ b.vrf = (Decides-eqb a.vrf vrf).0 of_a.0 ∙ sym ((Decides-eqb b.vrf vrf).0 of_b.0) in
      let x = giver a.addrs p of_a.1 in
      let y = giver b.addrs p of_b.1 in
      let apart : overlaps (subnet_of x.addr) (subnet_of y.addr) ≡ false = ((linked-from_sound m sound).intfs_apart.two i j a b other at_i at_j).subnets vrfs x.addr y.addr x.among y.among x.one y.one in
      let itself : overlaps (subnet_of x.addr) (subnet_of y.addr) ≡ true = ap (λ (s : Cidr). overlaps s (subnet_of y.addr)) x.gives ∙ ap (overlaps p) y.gives ∙ overlaps_itself p in
      absurd (true≢false (sym itself ∙ apart))
]
