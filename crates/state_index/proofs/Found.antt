-- What the indexes find is what a walk over the interfaces would.
use Rattle.std.proofs.Common.{◌≡◌, ◌==◌, ◌&&◌, ℕ, ◌<◌, ◌≤◌, not, Bool, true, false, cond, List, [], ◌∷◌, map, Option, None, Some, refl, sym, ap, ◌∙◌, subst, inl, inr, arith}
use Rattle.std.specs.Cmp.Derive.{both_true}
use Rattle.std.specs.List.{Contains, find, flat_map, list_any}
use Rattle.std.specs.Option.{option_map}
use Rattle.std.specs.Ordering.{nat_cmp}
use Rattle.std.specs.declared.cmp.Ordering.TheVariants.{Less}
use Rattle.std.proofs.lemmas.Bool.{and_parts, both_ways}
use Rattle.std.proofs.lemmas.Bool.Decides.{Decides-eqb}
use Rattle.std.proofs.lemmas.Cmp.{ranked}
use Rattle.keyed.specs.Cases.{by_bool}
use Rattle.keyed.specs.Keyed.{Ascends, IsBelow}
use Rattle.keyed.specs.KeyedLaws.{below_before}
use Rattle.keyed.specs.KeyOrders.{nat_order}
use Rattle.keyed.specs.ListLaws.{any_true, find_contains, true_any}
use Rattle.keyed.specs.Members.{contains_cases, contains_first, contains_flat_map, contains_map, contains_none, flat_map_contains, map_contains}
use Rattle.keyed.specs.SetLaws.{contains_set_of, set_of_contains}
use Rattle.net_types.specs.Cidr.{Cidr}
use Rattle.net_types.specs.Prefix.{overlaps}
use Rattle.switch_model.specs.declared.record.IntfRec.{IntfRec}
use Rattle.switch_model.specs.Addresses.{subnets}
use Rattle.switch_model.specs.Facts.{is_other}
use Rattle.subnet_index.specs.declared.key.Subnet.{Subnet}
use Rattle.subnet_index.specs.Overlapping.{overlaps_another}
use Rattle.subnet_index.specs.SubnetKey.{subnet_cmp, subnet_order}
use Rattle.subnet_index.specs.SubnetList.{subnets_in, subnets_of}
use Rattle.state_index.specs.declared.members.Member.{Member}
use Rattle.state_index.specs.MemberKey.{IsFirstMember, member_cmp, member_order}
use Rattle.state_index.specs.MemberList.{member_of, members_in}
use Rattle.state_index.proofs.Changing.{one_of}

abbrev Intfs : Type 0
Intfs = List (ℕ × IntfRec)

-- an interface that is in a VLAN
member_there : (intfs : Intfs) (vlan intf : ℕ) → Contains (members_in intfs) (record { vlan = vlan; intf = intf }) → (e : ℕ × IntfRec) × Contains intfs e × ((e.0 ≡ intf) × (e.1.vlan ≡ vlan))
member_there intfs vlan intf has =
    let found = contains_flat_map member_of intfs (record { vlan = vlan; intf = intf }) (contains_set_of member_cmp member_order (flat_map member_of intfs) (record { vlan = vlan; intf = intf }) has) in
    let is : record { vlan = vlan; intf = intf } ≡ record { vlan = found.0.1.vlan; intf = found.0.0 } = one_of (record { vlan = found.0.1.vlan; intf = found.0.0 }) (record { vlan = vlan; intf = intf }) found.2 in
    (found.0, found.1, (ap (λ (m : Member). m.intf) (sym is), ap (λ (m : Member). m.vlan) (sym is)))

there_member : (intfs : Intfs) (vlan : ℕ) (e : ℕ × IntfRec) → Contains intfs e → e.1.vlan ≡ vlan → Contains (members_in intfs) (record { vlan = vlan; intf = e.0 })
there_member intfs vlan e there is =
    let own : Member = record { vlan = e.1.vlan; intf = e.0 } in
    let has : Contains (members_in intfs) own = set_of_contains member_cmp member_order (flat_map member_of intfs) own (flat_map_contains member_of intfs e own there (contains_first own [])) in
    subst (λ (v : ℕ). Contains (members_in intfs) (record { vlan = v; intf = e.0 })) is has

-- the first entry that passes
find_passes : {A : Type 0} (p : A → Bool) (xs : List A) (x : A) → find p xs ≡ Some x → p x ≡ true
find_passes p [] x is = absurd (cc)
find_passes {A} p (y ∷ ys) x is = by_bool (p y)
    (λ h. let here : Some y ≡ Some x = rw h at is in let same : y ≡ x = cc in subst (λ (z : A). p z ≡ true) same h)
    (λ h. let rest : find p ys ≡ Some x = rw h at is in find_passes p ys x rest)

find_nothing : {A : Type 0} (p : A → Bool) (xs : List A) (x : A) → find p xs ≡ None → Contains xs x → p x ≡ true → ⊥
find_nothing p [] x is has passes = contains_none x has
find_nothing {A} p (y ∷ ys) x is has passes = by_bool (p y)
    (λ h. let no : Some y ≡ None = rw h at is in absurd (cc))
    (λ h. let rest : find p ys ≡ None = rw h at is in elim (contains_cases y ys x has) [
      | inl same ↦ both_ways (p y) h (subst (λ (z : A). p z ≡ true) same passes)
      | inr later ↦ find_nothing p ys x rest later passes
    ])

below_all : {V : Type 0} (k : ℕ) (es : List (ℕ × V)) (x : ℕ × V) → IsBelow nat_cmp k es → Ascends nat_cmp es → Contains es x → k < x.0
below_all k [] x below asc has = absurd (contains_none x has)
below_all {V} k (e ∷ es) x below asc has = elim (contains_cases e es x has) [
  | inl is ↦ let first : k < e.0 = rw below at (ranked k e.0 (nat_cmp k e.0) refl) in subst (λ (y : ℕ × V). k < y.0) (sym is) first
  | inr later ↦ below_all k es x (below_before nat_cmp nat_order k e.0 es below asc.0) asc.1 later
]

find_least : {V : Type 0} (p : ℕ × V → Bool) (es : List (ℕ × V)) (e x : ℕ × V) → Ascends nat_cmp es → find p es ≡ Some e → Contains es x → p x ≡ true → e.0 ≤ x.0
find_least p [] e x asc is has passes = absurd (cc)
find_least {V} p (y ∷ ys) e x asc is has passes = by_bool (p y)
    (λ h.
    let here : Some y ≡ Some e = rw h at is in
    let same : y ≡ e = cc in
    let number : y.0 ≡ e.0 = ap (λ (z : ℕ × V). z.0) same in
    elim (contains_cases y ys x has) [
      | inl own ↦ let own_number : x.0 ≡ y.0 = ap (λ (z : ℕ × V). z.0) own in omega (arith, number, own_number)
      | inr later ↦ let above = below_all y.0 ys x asc.0 asc.1 later in omega (arith, number, above)
    ])
    (λ h.
    let rest : find p ys ≡ Some e = rw h at is in
    elim (contains_cases y ys x has) [
      | inl own ↦ absurd (both_ways (p y) h (subst (λ (z : ℕ × V). p z ≡ true) own passes))
      | inr later ↦ find_least p ys e x asc.1 rest later passes
    ])

by_option : {V G : Type 0} (o : Option V) → (o ≡ None → G) → ((v : V) → o ≡ Some v → G) → G
by_option None f g = f refl
by_option (Some v) f g = g v refl

pub first_found : (intfs : Intfs) (vlan : ℕ) (first : Option ℕ) → Ascends nat_cmp intfs → IsFirstMember vlan (members_in intfs) first → first ≡ option_map (λ e. e.0) (find (λ e. e.1.vlan == vlan) intfs)
first_found intfs vlan first asc is = by_option (find (λ e. e.1.vlan == vlan) intfs) (found_none first is) (found_some first is)
  where
    p : ℕ × IntfRec → Bool
    p e = e.1.vlan == vlan

    found_none : (o : Option ℕ) → IsFirstMember vlan (members_in intfs) o → find (λ e. e.1.vlan == vlan) intfs ≡ None → o ≡ option_map (λ e. e.0) (find (λ e. e.1.vlan == vlan) intfs)
    found_none None is none = ap (λ (o : Option (ℕ × IntfRec)). option_map (λ (e : ℕ × IntfRec). e.0) o) (sym none)
    found_none (Some i) is none =
        let there = member_there intfs vlan i is.0 in
        absurd (find_nothing (λ (e : ℕ × IntfRec). e.1.vlan == vlan) intfs there.0 none there.1 ((Decides-eqb there.0.1.vlan vlan).1 there.2.1))

    found_some : (o : Option ℕ) → IsFirstMember vlan (members_in intfs) o → (e : ℕ × IntfRec) → find (λ e. e.1.vlan == vlan) intfs ≡ Some e → o ≡ option_map (λ e. e.0) (find (λ e. e.1.vlan == vlan) intfs)
    found_some None is e some =
        let passes = find_passes (λ (x : ℕ × IntfRec). x.1.vlan == vlan) intfs e some in
        let there = find_contains (λ (x : ℕ × IntfRec). x.1.vlan == vlan) intfs e some in
        absurd (is e.0 (there_member intfs vlan e there ((Decides-eqb e.1.vlan vlan).0 passes)))
    found_some (Some i) is e some =
        let passes = find_passes (λ (x : ℕ × IntfRec). x.1.vlan == vlan) intfs e some in
        let there = find_contains (λ (x : ℕ × IntfRec). x.1.vlan == vlan) intfs e some in
        let low : i ≤ e.0 = is.1 e.0 (there_member intfs vlan e there ((Decides-eqb e.1.vlan vlan).0 passes)) in
        let own = member_there intfs vlan i is.0 in
        let high : e.0 ≤ own.0.0 = find_least (λ (x : ℕ × IntfRec). x.1.vlan == vlan) intfs e own.0 asc some own.1 ((Decides-eqb own.0.1.vlan vlan).1 own.2.1) in
        let number : own.0.0 ≡ i = own.2.0 in
        let same : i ≡ e.0 = omega (arith, low, high, number) in
        ap Some same ∙ ap (λ (o : Option (ℕ × IntfRec)). option_map (λ (x : ℕ × IntfRec). x.0) o) (sym some)

-- another interface of the VRF with a subnet that overlaps the prefix
abbrev overlaps_as : ℕ → ℕ → Cidr → ℕ × IntfRec → Bool
overlaps_as intf vrf p e = is_other intf vrf e && list_any (overlaps p) (subnets e.1.addrs)

-- two tests that pass together
both_pass : (a b : Bool) → (a ≡ true → b ≡ true) → (b ≡ true → a ≡ true) → a ≡ b
both_pass true b to from = sym (to refl)
both_pass false true to from = from refl
both_pass false false to from = refl

module _ (intf vrf : ℕ) (p : Cidr) (intfs : Intfs) where
  to_walk : list_any (overlaps_another intf vrf p) (subnets_in intfs) ≡ true → list_any (overlaps_as intf vrf p) intfs ≡ true
  to_walk h =
      let one = any_true (overlaps_another intf vrf p) (subnets_in intfs) h in
      let s = one.0 in
      let found = contains_flat_map subnets_of intfs s (contains_set_of subnet_cmp subnet_order (flat_map subnets_of intfs) s one.1) in
      let e = found.0 in
      let made = contains_map (λ (q : Cidr). record { vrf = e.1.vrf; prefix = q; intf = e.0 }) (subnets e.1.addrs) s found.2 in
      let passes : overlaps_another intf vrf p (record { vrf = e.1.vrf; prefix = made.0; intf = e.0 }) ≡ true = subst (λ (x : Subnet). overlaps_another intf vrf p x ≡ true) (sym made.2) one.2 in
      let parts = and_parts (not (e.0 == intf) && (e.1.vrf == vrf)) (overlaps p made.0) passes in
      true_any (overlaps_as intf vrf p) intfs e found.1 (both_true parts.0 (true_any (overlaps p) (subnets e.1.addrs) made.0 made.1 parts.1))

  from_walk : list_any (overlaps_as intf vrf p) intfs ≡ true → list_any (overlaps_another intf vrf p) (subnets_in intfs) ≡ true
  from_walk h =
      let one = any_true (overlaps_as intf vrf p) intfs h in
      let e = one.0 in
      let parts = and_parts (not (e.0 == intf) && (e.1.vrf == vrf)) (list_any (overlaps p) (subnets e.1.addrs)) one.2 in
      let sub = any_true (overlaps p) (subnets e.1.addrs) parts.1 in
      let s : Subnet = record { vrf = e.1.vrf; prefix = sub.0; intf = e.0 } in
      let of : Contains (subnets_of e) s = map_contains (λ (q : Cidr). record { vrf = e.1.vrf; prefix = q; intf = e.0 }) (subnets e.1.addrs) sub.0 sub.1 in
      let there : Contains (subnets_in intfs) s = set_of_contains subnet_cmp subnet_order (flat_map subnets_of intfs) s (flat_map_contains subnets_of intfs e s one.1 of) in
      true_any (overlaps_another intf vrf p) (subnets_in intfs) s there (both_true parts.0 sub.2)

  pub overlaps_walked : list_any (overlaps_another intf vrf p) (subnets_in intfs) ≡ list_any (overlaps_as intf vrf p) intfs
  overlaps_walked = both_pass (list_any (overlaps_another intf vrf p) (subnets_in intfs)) (list_any (overlaps_as intf vrf p) intfs) to_walk from_walk
