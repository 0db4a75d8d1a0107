-- Numbers of keys stand among numbers as the keys do among keys.
use Rattle.std.proofs.Common.{◌≡◌, ◌↔◌, ℕ, List, [], ◌∷◌, map, sym, ap, ◌∙◌, subst}
use Rattle.std.specs.List.{All, AllByRecursion, Contains}
use Rattle.std.specs.List.Sorted.{IsStrictlySortedBy}
use Rattle.std.specs.Ordering.{nat_cmp}
use Rattle.std.specs.declared.cmp.Ordering.{Ordering}
use Rattle.std.specs.declared.cmp.Ordering.TheVariants.{Less}
use Rattle.std.proofs.lemmas.List.Elements.{All-contains, All-head, All-tail}
use Rattle.keyed.specs.Members.{contains_map, map_contains}
use Rattle.state_keys.specs.Numbering.{IsNumbering, IsNumberOf}

module _ {K : Type 0} {cmp : K → K → Ordering} {Is : K → Type 0} {number : K → ℕ} {of : ℕ → K} (law : IsNumbering cmp Is number of) where
  between : (n m : ℕ) → IsNumberOf Is number of n → IsNumberOf Is number of m → cmp (of n) (of m) ≡ nat_cmp n m
  between n m is there = sym (law.order (of n) (of m) is.key there.key) ∙ ap (λ (x : ℕ). nat_cmp x (number (of m))) is.same ∙ ap (nat_cmp n) there.same

  below_all : (n : ℕ) (ns : List ℕ) → IsNumberOf Is number of n → All (IsNumberOf Is number of) ns → AllByRecursion (λ m. nat_cmp n m ≡ Less) ns → AllByRecursion (λ k. cmp (of n) k ≡ Less) (map of ns)
  below_all n [] is all below = tt
  below_all n (m ∷ ms) is all below =
      let P : ℕ → Type 0 = IsNumberOf Is number of in
      (between n m is (All-head P m ms all) ∙ below.0, below_all n ms is (All-tail P m ms all) below.1)

  pub sorted_numbered : (ns : List ℕ) → All (IsNumberOf Is number of) ns → IsStrictlySortedBy nat_cmp ns → IsStrictlySortedBy cmp (map of ns)
  unfolding IsStrictlySortedBy
  sorted_numbered [] all asc = tt
  sorted_numbered (n ∷ ns) all asc =
      let P : ℕ → Type 0 = IsNumberOf Is number of in
      (below_all n ns (All-head P n ns all) (All-tail P n ns all) asc.0, sorted_numbered ns (All-tail P n ns all) asc.1)

  pub number_among : (k : K) → Is k → (ns : List ℕ) → All (IsNumberOf Is number of) ns → Contains ns (number k) ↔ Contains (map of ns) k
  number_among k is ns all = (
    (λ has. subst (λ (x : K). Contains (map of ns) x) (law.back k is) (map_contains of ns (number k) has)),
    (λ has.
        let f = contains_map of ns k has in
        let there : IsNumberOf Is number of f.0 = All-contains (IsNumberOf Is number of) ns f.0 all f.1 in
        subst (λ (n : ℕ). Contains ns n) (sym there.same ∙ ap number f.2) f.1),
  )
