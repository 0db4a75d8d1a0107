-- Keys of subnets, as strings of 192 bits.
use Rattle.std.proofs.Common.{◌≡◌, ℕ, ◌<◌, ◌^◌, [], ◌∷◌, refl, ap, ◌∙◌, arith}
use Rattle.std.specs.Ordering.{nat_cmp, ordering_then}
use Rattle.std.specs.declared.cmp.Ordering.{Ordering}
use Rattle.std.specs.declared.cmp.Ordering.TheVariants.{Equal}
use Rattle.std.proofs.lemmas.Cmp.{nat_cmp_total, on_total, then_total}
use Rattle.keyed.specs.Keyed.{IsKeyOrder}
use Rattle.keyed.specs.KeyOrders.{nat_cmp-exact, then-exact}
use Rattle.net_types.specs.Address.{ip_number, ip_width}
use Rattle.net_types.specs.Cidr.{Cidr}
use Rattle.net_types.specs.KeyOrder.{prefix_cmp, prefix_order}
use Rattle.net_types.specs.Prefix.{IsPrefix}
use Rattle.net_types.specs.Range.{IsIntf}
use Rattle.state_keys.specs.BitLaws.{Fit, nat_cmp-filled}
use Rattle.state_keys.specs.Bits.{field, filled}
use Rattle.state_keys.specs.KeyLaws.{ip_back, numbering, prefix_first, prefix_is, then-equal, within}
use Rattle.state_keys.specs.Numbering.{IsNumberOf, IsNumbering}
use Rattle.state_keys.specs.PartKeys.{family, ip_of, prefix_of}
use Rattle.subnet_index.specs.declared.key.Subnet.{Subnet}

-- by VRF, then by prefix, and then by interface
abbrev pub subnet_cmp : Subnet → Subnet → Ordering
subnet_cmp a b = ordering_then (nat_cmp a.vrf b.vrf) (ordering_then (prefix_cmp a.prefix b.prefix) (nat_cmp a.intf b.intf))

-- VRF 16, family 1, ip 128, length 8, interface 32
abbrev pub subnet_number : Subnet → ℕ
subnet_number s = filled 192 ((16, s.vrf) ∷ (1, family s.prefix.ip) ∷ (128, ip_number s.prefix.ip) ∷ (8, s.prefix.len) ∷ (32, s.intf) ∷ [])

-- the subnet of a number
abbrev pub subnet_at : ℕ → Subnet
subnet_at n = record { vrf = field 0 16 n; prefix = prefix_of n; intf = field 153 32 n }

-- a VRF and an interface within their ranges, and a prefix
pub record IsSubnet (s : Subnet) : Type 0 where
  pub vrf : s.vrf < 2 ^ 16
  pub ip : ip_number s.prefix.ip < 2 ^ ip_width s.prefix.ip
  pub prefix : IsPrefix s.prefix
  pub intf : IsIntf s.intf

-- the number of a subnet
abbrev pub IsSubnetNumber : ℕ → Type 0
IsSubnetNumber = IsNumberOf IsSubnet subnet_number subnet_at

subnet_is : (s : Subnet) (vrf : ℕ) (prefix : Cidr) (intf : ℕ) → vrf ≡ s.vrf → prefix ≡ s.prefix → intf ≡ s.intf → record { vrf = vrf; prefix = prefix; intf = intf } ≡ s
subnet_is s vrf prefix intf same same2 same3 = ap (λ (n : ℕ). record { vrf = n; prefix = prefix; intf = intf }) same ∙ ap (λ (p : Cidr). record { vrf = s.vrf; prefix = p; intf = intf }) same2 ∙ ap (λ (n : ℕ). record s { intf = n }) same3

pub subnet_order : IsKeyOrder subnet_cmp
subnet_order = record {
  total = then_total (on_total (λ (s : Subnet). s.vrf) nat_cmp_total) (then_total (on_total (λ (s : Subnet). s.prefix) prefix_order.total) (on_total (λ (s : Subnet). s.intf) nat_cmp_total));
  exact = λ x y h. let first = then-exact _ _ h in let rest = then-exact _ _ first.1 in let vrf : x.vrf ≡ y.vrf = nat_cmp-exact _ _ first.0 in let prefix : x.prefix ≡ y.prefix = prefix_order.exact _ _ rest.0 in let intf : x.intf ≡ y.intf = nat_cmp-exact _ _ rest.1 in subnet_is y x.vrf x.prefix x.intf vrf prefix intf;
}

subnet_fits : (s : Subnet) → IsSubnet s → Fit 192 ((16, s.vrf) ∷ (1, family s.prefix.ip) ∷ (128, ip_number s.prefix.ip) ∷ (8, s.prefix.len) ∷ (32, s.intf) ∷ [])
subnet_fits s is =
    let most = within s.prefix.ip s.prefix.len is.ip is.prefix.0 in
    let intf = is.intf.1 in
    (is.vrf, omega arith, (most.bit, omega arith, (most.number, omega arith, (most.short, omega arith, (omega (arith, intf), omega arith, tt)))))

pub subnet_numbering : IsNumbering subnet_cmp IsSubnet subnet_number subnet_at
subnet_numbering = numbering subnet_cmp IsSubnet subnet_number subnet_at
    (λ a b is is2. nat_cmp-filled 192 ((16, a.vrf) ∷ (1, family a.prefix.ip) ∷ (128, ip_number a.prefix.ip) ∷ (8, a.prefix.len) ∷ (32, a.intf) ∷ []) ((16, b.vrf) ∷ (1, family b.prefix.ip) ∷ (128, ip_number b.prefix.ip) ∷ (8, b.prefix.len) ∷ (32, b.intf) ∷ []) (refl, (refl, (refl, (refl, (refl, tt))))) (subnet_fits a is) (subnet_fits b is2)
    ∙ ap (λ (o : Ordering). ordering_then (nat_cmp a.vrf b.vrf) o) (prefix_first a.prefix b.prefix (ordering_then (nat_cmp a.intf b.intf) Equal) ∙ ap (λ (o : Ordering). ordering_then (prefix_cmp a.prefix b.prefix) o) (then-equal (nat_cmp a.intf b.intf))))
    (λ s is.
    let most = within s.prefix.ip s.prefix.len is.ip is.prefix.0 in
    let bit = most.bit in
    let number = most.number in
    let len = most.short in
    let vrf = is.vrf in
    let last = is.intf.1 in
    let n : ℕ = subnet_number s in
    let first : field 0 16 n ≡ s.vrf = omega arith in
    let ip : ip_of n ≡ s.prefix.ip = ip_back s.prefix.ip (field 16 1 n) (field 113 32 n) (field 17 128 n) is.ip (omega arith) (omega arith) (omega arith) in
    let prefix : prefix_of n ≡ s.prefix = prefix_is s.prefix (ip_of n) (field 145 8 n) ip (omega arith) in
    let intf : field 153 32 n ≡ s.intf = omega arith in
    subnet_is s (field 0 16 n) (prefix_of n) (field 153 32 n) first prefix intf)
