-- Keys of interfaces in their VLANs, as strings of 192 bits.
use Rattle.std.proofs.Common.{◌≡◌, ℕ, ◌≤◌, ◌==◌, [], ◌∷◌, List, Option, None, Some, if◌then◌else◌, refl, ap, ◌∙◌, arith}
use Rattle.std.specs.List.{Contains}
use Rattle.std.specs.Ordering.{nat_cmp, ordering_then}
use Rattle.std.specs.declared.cmp.Ordering.{Ordering}
use Rattle.std.proofs.lemmas.Cmp.{nat_cmp_total, on_total, then_total}
use Rattle.keyed.specs.Keyed.{IsKeyOrder}
use Rattle.keyed.specs.KeyOrders.{nat_cmp-exact, then-exact}
use Rattle.net_types.specs.Range.{IsIntf, IsVlan}
use Rattle.state_keys.specs.BitLaws.{Fit, nat_cmp-filled}
use Rattle.state_keys.specs.Bits.{field, filled}
use Rattle.state_keys.specs.KeyLaws.{numbering, then-equal}
use Rattle.state_keys.specs.Numbering.{IsNumberOf, IsNumbering}
use Rattle.state_index.specs.declared.members.Member.{Member}

-- by VLAN, and then by interface
abbrev pub member_cmp : Member → Member → Ordering
member_cmp a b = ordering_then (nat_cmp a.vlan b.vlan) (nat_cmp a.intf b.intf)

-- VLAN 16, interface 32
abbrev pub member_number : Member → ℕ
member_number m = filled 192 ((16, m.vlan) ∷ (32, m.intf) ∷ [])

-- the interface and its VLAN of a number
abbrev pub member_at : ℕ → Member
member_at n = record { vlan = field 0 16 n; intf = field 16 32 n }

-- a VLAN and an interface within their ranges
pub record IsMember (m : Member) : Type 0 where
  pub vlan : IsVlan m.vlan
  pub intf : IsIntf m.intf

-- the number of an interface in its VLAN
abbrev pub IsMemberNumber : ℕ → Type 0
IsMemberNumber = IsNumberOf IsMember member_number member_at

-- the interface of a number, where it is in the VLAN
abbrev pub member_in : ℕ → ℕ → Option ℕ
member_in vlan n = if field 0 16 n == vlan then Some (field 16 32 n) else None

-- the interface with the least number of those in the VLAN, and none where none is in it
abbrev pub IsFirstMember : ℕ → List Member → Option ℕ → Type 0
IsFirstMember vlan members None = (intf : ℕ) → Contains members (record { vlan = vlan; intf = intf }) → ⊥
IsFirstMember vlan members (Some first) = Contains members (record { vlan = vlan; intf = first }) × ((intf : ℕ) → Contains members (record { vlan = vlan; intf = intf }) → first ≤ intf)

member_is : (m : Member) (vlan intf : ℕ) → vlan ≡ m.vlan → intf ≡ m.intf → record { vlan = vlan; intf = intf } ≡ m
member_is m vlan intf same same2 = ap (λ (n : ℕ). record { vlan = n; intf = intf }) same ∙ ap (λ (n : ℕ). record m { intf = n }) same2

pub member_order : IsKeyOrder member_cmp
member_order = record {
  total = then_total (on_total (λ (m : Member). m.vlan) nat_cmp_total) (on_total (λ (m : Member). m.intf) nat_cmp_total);
  exact = λ x y h. let first = then-exact _ _ h in let vlan : x.vlan ≡ y.vlan = nat_cmp-exact _ _ first.0 in let intf : x.intf ≡ y.intf = nat_cmp-exact _ _ first.1 in member_is y x.vlan x.intf vlan intf;
}

member_fits : (m : Member) → IsMember m → Fit 192 ((16, m.vlan) ∷ (32, m.intf) ∷ [])
member_fits m is = let vlan = is.vlan.1 in let intf = is.intf.1 in (omega (arith, vlan), omega arith, (omega (arith, intf), omega arith, tt))

pub member_numbering : IsNumbering member_cmp IsMember member_number member_at
member_numbering = numbering member_cmp IsMember member_number member_at
    (λ a b is is2. nat_cmp-filled 192 ((16, a.vlan) ∷ (32, a.intf) ∷ []) ((16, b.vlan) ∷ (32, b.intf) ∷ []) (refl, (refl, tt)) (member_fits a is) (member_fits b is2) ∙ ap (λ (o : Ordering). ordering_then (nat_cmp a.vlan b.vlan) o) (then-equal (nat_cmp a.intf b.intf)))
    (λ m is.
    let vlan = is.vlan.1 in
    let intf = is.intf.1 in
    let n : ℕ = member_number m in
    member_is m (field 0 16 n) (field 16 32 n) (omega (arith, vlan, intf)) (omega (arith, vlan, intf)))
