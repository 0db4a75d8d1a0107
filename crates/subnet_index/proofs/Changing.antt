-- The subnets stay those of the interfaces when an interface changes.
use Rattle.std.proofs.Common.{◌≡◌, ℕ, Bool, true, false, not, cond, map, ◌==◌, ◌&&◌, ◌||◌, ◌++◌, List, [], ◌∷◌, Option, None, Some, refl, sym, ap, ◌∙◌, subst, inl, inr, ◌⊎◌}
use Rattle.std.specs.Cmp.{Equal-is}
use Rattle.std.specs.List.{Contains, filter, list_any}
use Rattle.std.specs.Ordering.{nat_cmp}
use Rattle.std.proofs.lemmas.Bool.{and_parts, both_ways}
use Rattle.std.proofs.lemmas.Bool.Decides.{Decides-eqb}
use Rattle.std.specs.Cmp.Derive.{both_true}
use Rattle.keyed.specs.Cases.{by_bool}
use Rattle.keyed.specs.Keyed.{at, Ascends}
use Rattle.keyed.specs.KeyedLaws.{same}
use Rattle.keyed.specs.KeyOrders.{nat_order}
use Rattle.keyed.specs.ListLaws.{any_true, true_any}
use Rattle.keyed.specs.Members.{contains_map, contains_filter, filter_contains, contains_none, map_contains}
use Rattle.net_types.specs.Cidr.{Cidr}
use Rattle.net_types.specs.KeyOrder.{prefix_cmp, prefix_order}
use Rattle.net_types.specs.Prefix.{subnet_of}
use Rattle.switch_model.specs.declared.record.IntfRec.{IntfRec}
use Rattle.switch_model.specs.Addresses.{has_subnet, same_addr, subnets}
use Rattle.subnet_index.specs.declared.key.Subnet.{Subnet}
use Rattle.subnet_index.specs.Index.{entry_changed, given, index_of, with_all, without_all}
use Rattle.subnet_index.specs.SubnetKey.{subnet_cmp, subnet_order}
use Rattle.subnet_index.specs.SubnetList.{add_addrs, add_come, cut_addrs, cut_gone, has_addr, keeps_addr, keeps_subnet, subnets_by, subnets_in, subnets_of}
use Rattle.subnet_index.proofs.Indexing.{index_changed}

-- address by address, or all at once
split : (vrf intf : ℕ) (a : Cidr) (more : List Cidr) → subnets_by vrf intf (a ∷ more) ≡ subnets_by vrf intf (a ∷ []) ++ subnets_by vrf intf more
split vrf intf a more = elim (has_subnet a) as (λ b. map (λ p. record { vrf = vrf; prefix = p; intf = intf }) (map subnet_of (cond b (a ∷ filter has_subnet more) (filter has_subnet more))) ≡ map (λ p. record { vrf = vrf; prefix = p; intf = intf }) (map subnet_of (cond b (a ∷ []) [])) ++ subnets_by vrf intf more) [ true ↦ refl | false ↦ refl ]

with_more : (ss ts xs : List Subnet) → with_all subnet_cmp (ss ++ ts) xs ≡ with_all subnet_cmp ts (with_all subnet_cmp ss xs)
with_more [] ts xs = refl
with_more (s ∷ ss) ts xs = with_more ss ts _

without_more : (ss ts xs : List Subnet) → without_all subnet_cmp (ss ++ ts) xs ≡ without_all subnet_cmp ts (without_all subnet_cmp ss xs)
without_more [] ts xs = refl
without_more (s ∷ ss) ts xs = without_more ss ts _

-- the addresses that don't pass
abbrev failing : (Cidr → Bool) → List Cidr → List Cidr
failing test addrs = filter (λ a. not (test a)) addrs

module _ (vrf intf : ℕ) (test : Cidr → Bool) where
  add_each : (more : List Cidr) (xs : List Subnet) → add_addrs vrf intf test more xs ≡ with_all subnet_cmp (subnets_by vrf intf (failing test more)) xs
  add_each [] xs = refl
  add_each (a ∷ more) xs = by_bool (test a)
      (λ h. rw h (add_each more xs))
      (λ h. rw h (add_each more (with_all subnet_cmp (subnets_by vrf intf (a ∷ [])) xs)
      ∙ sym (with_more (subnets_by vrf intf (a ∷ [])) (subnets_by vrf intf (failing test more)) xs)
      ∙ ap (λ (l : List Subnet). with_all subnet_cmp l xs) (sym (split vrf intf a (failing test more)))))

  cut_each : (more : List Cidr) (xs : List Subnet) → cut_addrs vrf intf test more xs ≡ without_all subnet_cmp (subnets_by vrf intf (failing test more)) xs
  cut_each [] xs = refl
  cut_each (a ∷ more) xs = by_bool (test a)
      (λ h. rw h (cut_each more xs))
      (λ h. rw h (cut_each more (without_all subnet_cmp (subnets_by vrf intf (a ∷ [])) xs)
      ∙ sym (without_more (subnets_by vrf intf (a ∷ [])) (subnets_by vrf intf (failing test more)) xs)
      ∙ ap (λ (l : List Subnet). without_all subnet_cmp l xs) (sym (split vrf intf a (failing test more)))))

-- what goes, and what comes
abbrev gone : ℕ → Option IntfRec → Option IntfRec → List Subnet
gone intf None new = []
gone intf (Some rec) new = subnets_by rec.vrf intf (failing (keeps_subnet new rec.vrf) rec.addrs)

abbrev come : ℕ → Option IntfRec → Option IntfRec → List Subnet
come intf old None = []
come intf old (Some rec) = subnets_by rec.vrf intf (failing (has_addr old rec.vrf) rec.addrs)

cut_is : (intf : ℕ) (old new : Option IntfRec) (xs : List Subnet) → cut_gone intf old new xs ≡ without_all subnet_cmp (gone intf old new) xs
cut_is intf None new xs = refl
cut_is intf (Some rec) new xs = cut_each rec.vrf intf (keeps_subnet new rec.vrf) rec.addrs xs

add_is : (intf : ℕ) (old new : Option IntfRec) (xs : List Subnet) → add_come intf old new xs ≡ with_all subnet_cmp (come intf old new) xs
add_is intf old None xs = refl
add_is intf old (Some rec) xs = add_each rec.vrf intf (has_addr old rec.vrf) rec.addrs xs

-- a subnet of addresses is that of one of them
record IsSubnetOf (vrf intf : ℕ) (addrs : List Cidr) (s : Subnet) : Type 0 where
  addr : Cidr
  there : Contains addrs addr
  has : has_subnet addr ≡ true
  is : record { vrf = vrf; prefix = subnet_of addr; intf = intf } ≡ s

subnet_from : (vrf intf : ℕ) (addrs : List Cidr) (s : Subnet) → Contains (subnets_by vrf intf addrs) s → IsSubnetOf vrf intf addrs s
subnet_from vrf intf addrs s has =
    let f : Cidr → Subnet = λ p. record { vrf = vrf; prefix = p; intf = intf } in
    let one = contains_map f (subnets addrs) s has in
    let two = contains_map subnet_of (filter has_subnet addrs) one.0 one.1 in
    let three = contains_filter has_subnet addrs two.0 two.1 in
    record { addr = two.0; there = three.0; has = three.1; is = ap f two.2 ∙ one.2 }

subnet_among : (addrs : List Cidr) (a : Cidr) → Contains addrs a → has_subnet a ≡ true → Contains (subnets addrs) (subnet_of a)
subnet_among addrs a there has = map_contains subnet_of (filter has_subnet addrs) a (filter_contains has_subnet addrs a there has)

to_subnet : (vrf intf : ℕ) (addrs : List Cidr) (s : Subnet) → IsSubnetOf vrf intf addrs s → Contains (subnets_by vrf intf addrs) s
to_subnet vrf intf addrs s of =
    let f : Cidr → Subnet = λ p. record { vrf = vrf; prefix = p; intf = intf } in
    subst (λ (x : Subnet). Contains (subnets_by vrf intf addrs) x) of.is (map_contains f (subnets addrs) (subnet_of of.addr) (subnet_among addrs of.addr of.there of.has))

-- addresses that are the same are one
one_addr : (a b : Cidr) → same_addr a b ≡ true → a ≡ b
one_addr a b h = prefix_order.exact a b ((Equal-is (prefix_cmp a b)).0 h)

self_addr : (a : Cidr) → same_addr a a ≡ true
self_addr a = (Equal-is (prefix_cmp a a)).1 (same prefix_cmp prefix_order a)

among : (a : Cidr) (addrs : List Cidr) → list_any (same_addr a) addrs ≡ true → Contains addrs a
among a addrs h = let found = any_true (same_addr a) addrs h in subst (λ (x : Cidr). Contains addrs x) (sym (one_addr a found.0 found.2)) found.1

or_cases : (a b : Bool) → (a || b) ≡ true → (a ≡ true) ⊎ (b ≡ true)
or_cases true b h = inl refl
or_cases false b h = inr h

or_second : (a b : Bool) → b ≡ true → (a || b) ≡ true
or_second true b h = refl
or_second false b h = h

-- an address with a subnet that is kept
kept_has : (addrs : List Cidr) (a : Cidr) → has_subnet a ≡ true → keeps_addr addrs a ≡ true → Contains (subnets addrs) (subnet_of a)
kept_has addrs a has h = elim (or_cases (list_any (same_addr a) addrs) (list_any (same_addr (subnet_of a)) (subnets addrs)) h) [
  | inl own ↦ subnet_among addrs a (among a addrs own) has
  | inr its ↦ among (subnet_of a) (subnets addrs) its
]

has_kept : (addrs : List Cidr) (a : Cidr) → Contains (subnets addrs) (subnet_of a) → keeps_addr addrs a ≡ true
has_kept addrs a has = or_second (list_any (same_addr a) addrs) (list_any (same_addr (subnet_of a)) (subnets addrs)) (true_any (same_addr (subnet_of a)) (subnets addrs) (subnet_of a) has (self_addr (subnet_of a)))

prefix_among : (vrf intf v : ℕ) (addrs : List Cidr) (s : Subnet) → Contains (subnets_by v intf addrs) s → (v ≡ s.vrf) × Contains (subnets addrs) s.prefix
prefix_among vrf intf v addrs s has =
    let one = contains_map (λ (p : Cidr). record { vrf = v; prefix = p; intf = intf }) (subnets addrs) s has in
    (ap (λ (x : Subnet). x.vrf) one.2, subst (λ (p : Cidr). Contains (subnets addrs) p) (ap (λ (x : Subnet). x.prefix) one.2) one.1)

same_vrf : (v w : ℕ) → v ≡ w → (v == w) ≡ true
same_vrf v w is = (Decides-eqb v w).1 is

-- an address of the old record whose subnet the new one keeps, or not
kept_given : (intf vrf : ℕ) (a : Cidr) (new : Option IntfRec) (s : Subnet) → has_subnet a ≡ true → record { vrf = vrf; prefix = subnet_of a; intf = intf } ≡ s → keeps_subnet new vrf a ≡ true → Contains (given subnets_of intf new) s
kept_given intf vrf a None s has is h = absurd (cc)
kept_given intf vrf a (Some rec) s has is h =
    let both = and_parts (rec.vrf == vrf) (keeps_addr rec.addrs a) h in
    let f : ℕ → Subnet = λ v. record { vrf = v; prefix = subnet_of a; intf = intf } in
    let there : Contains (subnets_by rec.vrf intf rec.addrs) (f rec.vrf) = map_contains (λ (p : Cidr). record { vrf = rec.vrf; prefix = p; intf = intf }) (subnets rec.addrs) (subnet_of a) (kept_has rec.addrs a has both.1) in
    subst (λ (x : Subnet). Contains (subnets_by rec.vrf intf rec.addrs) x) (ap f ((Decides-eqb rec.vrf vrf).0 both.0) ∙ is) there

given_kept : (intf vrf : ℕ) (a : Cidr) (new : Option IntfRec) (s : Subnet) → record { vrf = vrf; prefix = subnet_of a; intf = intf } ≡ s → Contains (given subnets_of intf new) s → keeps_subnet new vrf a ≡ true
given_kept intf vrf a None s is has = absurd (contains_none s has)
given_kept intf vrf a (Some rec) s is has =
    let found = prefix_among vrf intf rec.vrf rec.addrs s has in
    let v : rec.vrf ≡ vrf = found.0 ∙ ap (λ (x : Subnet). x.vrf) (sym is) in
    let p : s.prefix ≡ subnet_of a = ap (λ (x : Subnet). x.prefix) (sym is) in
    both_true (same_vrf rec.vrf vrf v) (has_kept rec.addrs a (subst (λ (q : Cidr). Contains (subnets rec.addrs) q) p found.1))

not_false : (b : Bool) → not b ≡ true → b ≡ false
not_false true h = absurd (cc)
not_false false h = refl

not_true : (b : Bool) → b ≡ false → not b ≡ true
not_true true h = absurd (cc)
not_true false h = refl

gone_old : (intf : ℕ) (old new : Option IntfRec) (s : Subnet) → Contains (gone intf old new) s → Contains (given subnets_of intf old) s × (Contains (given subnets_of intf new) s → ⊥)
gone_old intf None new s has = absurd (contains_none s has)
gone_old intf (Some rec) new s has =
    let of = subnet_from rec.vrf intf (failing (keeps_subnet new rec.vrf) rec.addrs) s has in
    let one = contains_filter (λ (a : Cidr). not (keeps_subnet new rec.vrf a)) rec.addrs of.addr of.there in (
      to_subnet rec.vrf intf rec.addrs s (record { addr = of.addr; there = one.0; has = of.has; is = of.is }),
      λ kept. both_ways (keeps_subnet new rec.vrf of.addr) (not_false (keeps_subnet new rec.vrf of.addr) one.1) (given_kept intf rec.vrf of.addr new s of.is kept),
    )

old_gone : (intf : ℕ) (old new : Option IntfRec) (s : Subnet) → Contains (given subnets_of intf old) s → Contains (given subnets_of intf new) s ⊎ Contains (gone intf old new) s
old_gone intf None new s has = absurd (contains_none s has)
old_gone intf (Some rec) new s has =
    let of = subnet_from rec.vrf intf rec.addrs s has in
    by_bool (keeps_subnet new rec.vrf of.addr)
    (λ h. inl (kept_given intf rec.vrf of.addr new s of.has of.is h))
    (λ h. inr (to_subnet rec.vrf intf (failing (keeps_subnet new rec.vrf) rec.addrs) s (record { addr = of.addr; there = filter_contains (λ (a : Cidr). not (keeps_subnet new rec.vrf a)) rec.addrs of.addr of.there (not_true (keeps_subnet new rec.vrf of.addr) h); has = of.has; is = of.is })))

come_new : (intf : ℕ) (old new : Option IntfRec) (s : Subnet) → Contains (come intf old new) s → Contains (given subnets_of intf new) s
come_new intf old None s has = absurd (contains_none s has)
come_new intf old (Some rec) s has =
    let of = subnet_from rec.vrf intf (failing (has_addr old rec.vrf) rec.addrs) s has in
    let one = contains_filter (λ (a : Cidr). not (has_addr old rec.vrf a)) rec.addrs of.addr of.there in
    to_subnet rec.vrf intf rec.addrs s (record { addr = of.addr; there = one.0; has = of.has; is = of.is })

-- an address that was there gave its subnet
had_given : (intf vrf : ℕ) (a : Cidr) (old : Option IntfRec) (s : Subnet) → has_subnet a ≡ true → record { vrf = vrf; prefix = subnet_of a; intf = intf } ≡ s → has_addr old vrf a ≡ true → Contains (given subnets_of intf old) s
had_given intf vrf a None s has is h = absurd (cc)
had_given intf vrf a (Some rec) s has is h =
    let both = and_parts (rec.vrf == vrf) (list_any (same_addr a) rec.addrs) h in
    let v : rec.vrf ≡ vrf = (Decides-eqb rec.vrf vrf).0 both.0 in
    to_subnet rec.vrf intf rec.addrs s (record { addr = a; there = among a rec.addrs both.1; has = has; is = ap (λ (n : ℕ). record { vrf = n; prefix = subnet_of a; intf = intf }) v ∙ is })

new_come : (intf : ℕ) (old new : Option IntfRec) (s : Subnet) → Contains (given subnets_of intf new) s → Contains (come intf old new) s ⊎ Contains (given subnets_of intf old) s
new_come intf old None s has = absurd (contains_none s has)
new_come intf old (Some rec) s has =
    let of = subnet_from rec.vrf intf rec.addrs s has in
    by_bool (has_addr old rec.vrf of.addr)
    (λ h. inr (had_given intf rec.vrf of.addr old s of.has of.is h))
    (λ h. inl (to_subnet rec.vrf intf (failing (has_addr old rec.vrf) rec.addrs) s (record { addr = of.addr; there = filter_contains (λ (a : Cidr). not (has_addr old rec.vrf a)) rec.addrs of.addr of.there (not_true (has_addr old rec.vrf of.addr) h); has = of.has; is = of.is })))

own_intf : (e : ℕ × IntfRec) (s : Subnet) → Contains (subnets_of e) s → s.intf ≡ e.0
own_intf e s has = ap (λ (x : Subnet). x.intf) (sym (subnet_from e.1.vrf e.0 e.1.addrs s has).is)

pub subnets_changed : (intfs : List (ℕ × IntfRec)) (intf : ℕ) (old new : Option IntfRec) → Ascends nat_cmp intfs → at nat_cmp intf intfs ≡ old → add_come intf old new (cut_gone intf old new (subnets_in intfs)) ≡ subnets_in (entry_changed nat_cmp intf new intfs)
subnets_changed intfs intf old new asc before =
    add_is intf old new (cut_gone intf old new (subnets_in intfs))
    ∙ ap (with_all subnet_cmp (come intf old new)) (cut_is intf old new (subnets_in intfs))
    ∙ index_changed nat_cmp nat_order subnets_of (λ s. s.intf) own_intf subnet_cmp subnet_order intfs intf old new (gone intf old new) (come intf old new) asc before (gone_old intf old new) (old_gone intf old new) (come_new intf old new) (new_come intf old new)
