-- The interfaces by VLAN stay those of the interfaces when one of them changes.
use Rattle.std.proofs.Common.{◌≡◌, ◌==◌, ℕ, Bool, true, false, List, [], ◌∷◌, Option, None, Some, refl, sym, ap, ◌∙◌, subst, inl, inr, ◌⊎◌, if◌then◌else◌}
use Rattle.std.specs.List.{Contains}
use Rattle.std.specs.Ordering.{nat_cmp}
use Rattle.std.proofs.lemmas.Bool.{both_ways}
use Rattle.std.proofs.lemmas.Bool.Decides.{Decides-eqb}
use Rattle.keyed.specs.Cases.{by_bool}
use Rattle.keyed.specs.Keyed.{at, Ascends}
use Rattle.keyed.specs.KeyOrders.{nat_order}
use Rattle.keyed.specs.Members.{contains_cases, contains_first, contains_none}
use Rattle.switch_model.specs.declared.record.IntfRec.{IntfRec}
use Rattle.subnet_index.specs.Index.{entry_changed, given, with_all, without_all}
use Rattle.subnet_index.proofs.Indexing.{index_changed}
use Rattle.state_index.specs.declared.members.Member.{Member}
use Rattle.state_index.specs.MemberKey.{member_cmp, member_order}
use Rattle.state_index.specs.MemberList.{cut_at, cut_member, is_in, lost, member_of, members_in, put_at, put_member}

-- the interface in a VLAN, where there is one
abbrev in_vlan : ℕ → Option ℕ → List Member
in_vlan intf None = []
in_vlan intf (Some vlan) = record { vlan = vlan; intf = intf } ∷ []

cut_is : (intf : ℕ) (o : Option ℕ) (ms : List Member) → cut_at intf o ms ≡ without_all member_cmp (in_vlan intf o) ms
cut_is intf None ms = refl
cut_is intf (Some vlan) ms = refl

put_is : (intf : ℕ) (o : Option ℕ) (ms : List Member) → put_at intf o ms ≡ with_all member_cmp (in_vlan intf o) ms
put_is intf None ms = refl
put_is intf (Some vlan) ms = refl

pub one_of : (m x : Member) → Contains (m ∷ []) x → x ≡ m
one_of m x has = elim (contains_cases m [] x has) [ inl is ↦ is | inr none ↦ absurd (contains_none x none) ]

-- an interface that isn't in the VLAN of the new record
gone_old : (intf : ℕ) (old new : Option IntfRec) (x : Member) → Contains (in_vlan intf (lost old new)) x → Contains (given member_of intf old) x × (Contains (given member_of intf new) x → ⊥)
gone_old intf None new x has = absurd (contains_none x has)
gone_old intf (Some rec) new x has = by_bool (is_in new rec.vlan)
    (λ h. let none : Contains [] x = rw h at has in absurd (contains_none x none))
    (λ h. let there : Contains (record { vlan = rec.vlan; intf = intf } ∷ []) x = rw h at has in (there, other new h (one_of (record { vlan = rec.vlan; intf = intf }) x there)))
  where
    other : (o : Option IntfRec) → is_in o rec.vlan ≡ false → x ≡ record { vlan = rec.vlan; intf = intf } → Contains (given member_of intf o) x → ⊥
    other None h is there = contains_none x there
    other (Some r) h is there =
        let same : r.vlan ≡ rec.vlan = ap (λ (m : Member). m.vlan) (sym (one_of (record { vlan = r.vlan; intf = intf }) x there) ∙ is) in
        both_ways (r.vlan == rec.vlan) h ((Decides-eqb r.vlan rec.vlan).1 same)

old_gone : (intf : ℕ) (old new : Option IntfRec) (x : Member) → Contains (given member_of intf old) x → Contains (given member_of intf new) x ⊎ Contains (in_vlan intf (lost old new)) x
old_gone intf None new x has = absurd (contains_none x has)
old_gone intf (Some rec) new x has = by_bool (is_in new rec.vlan)
    (λ h. inl (stays new h))
    (λ h. inr (rw h has))
  where
    stays : (o : Option IntfRec) → is_in o rec.vlan ≡ true → Contains (given member_of intf o) x
    stays None h = absurd (cc)
    stays (Some r) h =
        let same : r.vlan ≡ rec.vlan = (Decides-eqb r.vlan rec.vlan).0 h in
        let is : x ≡ record { vlan = r.vlan; intf = intf } = one_of (record { vlan = rec.vlan; intf = intf }) x has ∙ ap (λ (v : ℕ). record { vlan = v; intf = intf }) (sym same) in
        subst (λ (m : Member). Contains (record { vlan = r.vlan; intf = intf } ∷ []) m) (sym is) (contains_first (record { vlan = r.vlan; intf = intf }) [])

own_intf : (e : ℕ × IntfRec) (x : Member) → Contains (member_of e) x → x.intf ≡ e.0
own_intf e x has = ap (λ (m : Member). m.intf) (one_of (record { vlan = e.1.vlan; intf = e.0 }) x has)

swap : {A B : Type 0} → A ⊎ B → B ⊎ A
swap (inl a) = inr a
swap (inr b) = inl b

pub members_changed : (intfs : List (ℕ × IntfRec)) (intf : ℕ) (old new : Option IntfRec) → Ascends nat_cmp intfs → at nat_cmp intf intfs ≡ old → put_member intf old new (cut_member intf old new (members_in intfs)) ≡ members_in (entry_changed nat_cmp intf new intfs)
members_changed intfs intf old new asc before =
    put_is intf (lost new old) (cut_member intf old new (members_in intfs))
    ∙ ap (with_all member_cmp (in_vlan intf (lost new old))) (cut_is intf (lost old new) (members_in intfs))
    ∙ index_changed nat_cmp nat_order member_of (λ m. m.intf) own_intf member_cmp member_order intfs intf old new (in_vlan intf (lost old new)) (in_vlan intf (lost new old)) asc before
    (gone_old intf old new) (old_gone intf old new) (λ x has. (gone_old intf new old x has).0) (λ x has. swap (old_gone intf new old x has))
