-- The first interface of a VLAN is the least key past the VLAN's own.
use Rattle.std.proofs.Common.{◌≡◌, ◌==◌, ℕ, ◌<◌, ◌≤◌, ◌+◌, ◌*◌, ◌^◌, Bool, true, false, List, [], ◌∷◌, map, Option, None, Some, refl, sym, ap, ◌∙◌, subst, arith}
use Rattle.std.specs.List.{All, Contains}
use Rattle.std.proofs.lemmas.Bool.{both_ways}
use Rattle.std.proofs.lemmas.Bool.Decides.{Decides-eqb}
use Rattle.keyed.specs.Cases.{by_bool}
use Rattle.keyed.specs.ListLaws.{all_of}
use Rattle.keyed.specs.Members.{contains_map, map_contains}
use Rattle.key_set.specs.Next.{IsNext}
use Rattle.net_types.specs.Range.{IsIntf}
use Rattle.state_keys.specs.Bits.{field}
use Rattle.state_keys.specs.PartKeys.{vlan_number}
use Rattle.state_index.specs.declared.members.Member.{Member}
use Rattle.state_index.specs.MemberKey.{IsFirstMember, IsMember, IsMemberNumber, member_at, member_in, member_number}

-- each of the keys is that of an interface in a VLAN
abbrev pub AreMembers : List ℕ → Type 0
AreMembers ks = (k : ℕ) → Contains ks k → IsMemberNumber k

-- a key with what its number is made of
record IsKeyOf (vlan intf k : ℕ) : Type 0 where
  is : k ≡ vlan * 2 ^ 176 + (intf * 2 ^ 144 + 0)
  least : 1 ≤ intf
  fits : intf < 2 ^ 32

key_of : (vlan intf k : ℕ) → IsMemberNumber k → member_at k ≡ record { vlan = vlan; intf = intf } → IsKeyOf vlan intf k
key_of vlan intf k number same =
    let is : k ≡ member_number (record { vlan = vlan; intf = intf }) = sym number.same ∙ ap member_number same in
    let range : IsIntf intf = subst (λ (m : Member). IsIntf m.intf) same number.key.intf in
    record { is = is; least = range.0; fits = omega (arith, range.1) }

-- the key of an interface that is in the VLAN
found_key : (vlan intf : ℕ) (ks : List ℕ) → AreMembers ks → Contains (map member_at ks) (record { vlan = vlan; intf = intf }) → (k : ℕ) × Contains ks k × IsKeyOf vlan intf k
found_key vlan intf ks are has =
    let found = contains_map member_at ks (record { vlan = vlan; intf = intf }) has in
    (found.0, found.1, key_of vlan intf found.0 (are found.0 found.1) found.2)

past_vlan : (vlan intf k bound : ℕ) → bound ≡ vlan_number vlan → IsKeyOf vlan intf k → bound < k
past_vlan vlan intf k bound low key = let is = key.is in let least = key.least in omega (arith, low, is, least)

pub first_none : (vlan bound : ℕ) (ks : List ℕ) → bound ≡ vlan_number vlan → AreMembers ks → IsNext (Some bound) ks None → IsFirstMember vlan (map member_at ks) None
first_none vlan bound ks low are next = λ intf has.
    let k = found_key vlan intf ks are has in
    next k.0 k.1 (past_vlan vlan intf k.0 bound low k.2)

pub first_some : (vlan bound k : ℕ) (ks : List ℕ) → bound ≡ vlan_number vlan → AreMembers ks → IsNext (Some bound) ks (Some k) → IsFirstMember vlan (map member_at ks) (member_in vlan k)
first_some vlan bound k ks low are next =
    let own = key_of (field 0 16 k) (field 16 32 k) k (are k next.0) refl in
    by_bool (field 0 16 k == vlan)
    (λ h.
    let same : field 0 16 k ≡ vlan = (Decides-eqb (field 0 16 k) vlan).0 h in
    let there : Contains (map member_at ks) (record { vlan = vlan; intf = field 16 32 k }) = subst (λ (v : ℕ). Contains (map member_at ks) (record { vlan = v; intf = field 16 32 k })) same (map_contains member_at ks k next.0) in
    rw h (
      there,
      λ intf has.
          let other = found_key vlan intf ks are has in
          let le : k ≤ other.0 = next.2 other.0 other.1 (past_vlan vlan intf other.0 bound low other.2) in
          least_intf (field 0 16 k) vlan (field 16 32 k) intf k other.0 same own.is other.2.is le,
    ))
    (λ h. rw h (λ intf has.
    let other = found_key vlan intf ks are has in
    let le : k ≤ other.0 = next.2 other.0 other.1 (past_vlan vlan intf other.0 bound low other.2) in
    let same : field 0 16 k ≡ vlan = one_vlan (field 0 16 k) vlan (field 16 32 k) intf k other.0 bound low own.is other.2.is own.fits other.2.fits le next.1 in
    both_ways (field 0 16 k == vlan) h ((Decides-eqb (field 0 16 k) vlan).1 same)))
  where
    least_intf : (v w i j k l : ℕ) → v ≡ w → k ≡ v * 2 ^ 176 + (i * 2 ^ 144 + 0) → l ≡ w * 2 ^ 176 + (j * 2 ^ 144 + 0) → k ≤ l → i ≤ j
    least_intf v w i j k l same is is2 le = omega (arith, same, is, is2, le)

    one_vlan : (v w i j k l bound : ℕ) → bound ≡ vlan_number w → k ≡ v * 2 ^ 176 + (i * 2 ^ 144 + 0) → l ≡ w * 2 ^ 176 + (j * 2 ^ 144 + 0) → i < 2 ^ 32 → j < 2 ^ 32 → k ≤ l → bound < k → v ≡ w
    one_vlan v w i j k l bound low is is2 fits fits2 le past = omega (arith, low, is, is2, fits, fits2, le, past)
