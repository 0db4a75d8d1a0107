-- A list of keys beside the set of its keys.
use Rattle.std.proofs.Common.{◌≡◌, ◌↔◌, ◌+◌, ◌≤◌, ℕ, suc, true, false, List, [], ◌∷◌, Result, Ok, Err, is_ok, length, map, nat_lt, get_or, refl, sym, ap, ◌∙◌, subst, inl, inr, arith}
use Rattle.std.specs.List.{AllByRecursion, Contains, list_any}
use Rattle.std.specs.List.Sorted.{IsStrictlySortedBy}
use Rattle.std.specs.Ordering.{eq_by_cmp, is_eq}
use Rattle.std.specs.declared.cmp.Ordering.{Ordering}
use Rattle.std.specs.declared.cmp.Ordering.TheVariants.{Less, Equal, Greater}
use Rattle.std.proofs.lemmas.Bool.{both_ways, le-ltb, lt-ltb, ltb-false, ltb-true, or_cases, or_left, or_parts, or_right}
use Rattle.keyed.specs.Keyed.{IsKeyOrder}
use Rattle.keyed.specs.KeyedLaws.{same}
use Rattle.keyed.specs.Members.{IsDistinct, contains_first, contains_later, contains_cases, contains_none, few_distinct}
use Rattle.keyed.specs.SetPlaces.{IsKeyPlace}
use Rattle.net_types.specs.Cidr.{Cidr}
use Rattle.net_types.specs.KeyOrder.{prefix_cmp, prefix_order}
use Rattle.switch_model.specs.Hops.{has_double}
use Rattle.state_update.proofs.Cases.{by_bool}

is_equal : (o : Ordering) → is_eq o ≡ true → o ≡ Equal
is_equal Less h = absurd (cc)
is_equal Equal h = refl
is_equal Greater h = absurd (cc)

module _ {K : Type 0} (cmp : K → K → Ordering) (is_order : IsKeyOrder cmp) where
  pub any_contains : (k : K) (xs : List K) → list_any (eq_by_cmp cmp k) xs ≡ true → Contains xs k
  any_contains k [] h = absurd (cc)
  any_contains k (x ∷ xs) h = elim (or_cases (eq_by_cmp cmp k x) (list_any (eq_by_cmp cmp k) xs) h) [
    | inl here ↦ let one : k ≡ x = is_order.exact k x (is_equal (cmp k x) here) in subst (λ (y : K). Contains (x ∷ xs) y) (sym one) (contains_first x xs)
    | inr rest ↦ contains_later x xs k (any_contains k xs rest)
  ]

  pub contains_any : (k : K) (xs : List K) → Contains xs k → list_any (eq_by_cmp cmp k) xs ≡ true
  contains_any k [] has = absurd (contains_none k has)
  contains_any k (x ∷ xs) has = elim (contains_cases x xs k has) [
    | inl one ↦
        let tied : cmp k x ≡ Equal = ap (cmp k) (sym one) ∙ same cmp is_order k in
        or_left (eq_by_cmp cmp k x) (list_any (eq_by_cmp cmp k) xs) (ap is_eq tied)
    | inr rest ↦ or_right (eq_by_cmp cmp k x) (list_any (eq_by_cmp cmp k) xs) (contains_any k xs rest)
  ]

  pub any_same : (k : K) (xs ys : List K) → Contains xs k ↔ Contains ys k → list_any (eq_by_cmp cmp k) xs ≡ list_any (eq_by_cmp cmp k) ys
  any_same k xs ys both = by_bool (list_any (eq_by_cmp cmp k) ys)
      (λ h. contains_any k xs (both.1 (any_contains k ys h)) ∙ sym h)
      (λ h. by_bool (list_any (eq_by_cmp cmp k) xs)
      (λ g. absurd (both_ways (list_any (eq_by_cmp cmp k) ys) h (contains_any k ys (both.0 (any_contains k xs g)))))
      (λ g. g ∙ sym h))

  distinct : (ks : List K) → has_double cmp ks ≡ false → IsDistinct ks
  distinct [] h = tt
  distinct (k ∷ ks) h =
      let both = or_parts (list_any (eq_by_cmp cmp k) ks) (has_double cmp ks) h in
      (λ has. both_ways (list_any (eq_by_cmp cmp k) ks) both.0 (contains_any k ks has), distinct ks both.1)

  -- without one of two equal keys the same keys stand there
  shorter : (ks : List K) → has_double cmp ks ≡ true → (less : List K) × (length less + 1 ≡ length ks) × ((z : K) → Contains ks z → Contains less z)
  shorter [] h = absurd (cc)
  shorter (k ∷ ks) h = elim (or_cases (list_any (eq_by_cmp cmp k) ks) (has_double cmp ks) h) [
    | inl here ↦ (
      ks,
      omega arith,
      λ z has. elim (contains_cases k ks z has) [
        | inl one ↦ subst (λ (y : K). Contains ks y) (sym one) (any_contains k ks here)
        | inr rest ↦ rest
      ],
    )
    | inr later ↦
        let rest = shorter ks later in (
          k ∷ rest.0,
          omega (arith, rest.1),
          λ z has. elim (contains_cases k ks z has) [
            | inl one ↦ subst (λ (y : K). Contains (k ∷ rest.0) y) (sym one) (contains_first k rest.0)
            | inr other ↦ contains_later k rest.0 z (rest.2 z other)
          ],
        )
  ]

  above_all : (j y : K) (xs : List K) → AllByRecursion (λ x. cmp j x ≡ Less) xs → Contains xs y → cmp j y ≡ Less
  above_all j y [] all has = absurd (contains_none y has)
  above_all j y (x ∷ xs) all has = elim (contains_cases x xs y has) [
    | inl one ↦ ap (cmp j) one ∙ all.0
    | inr rest ↦ above_all j y xs all.1 rest
  ]

  ascending_distinct : (xs : List K) → IsStrictlySortedBy cmp xs → IsDistinct xs
  unfolding IsStrictlySortedBy
  ascending_distinct [] asc = tt
  ascending_distinct (x ∷ xs) asc = (λ has. let no : Less ≡ Equal = sym (above_all x x xs asc.0 has) ∙ same cmp is_order x in absurd (cc), ascending_distinct xs asc.1)

  -- the set is smaller exactly where a key stands twice
  pub doubles : (set ks : List K) → IsStrictlySortedBy cmp set → ((z : K) → Contains set z ↔ Contains ks z) → nat_lt (length set) (length ks) ≡ has_double cmp ks
  doubles set ks asc members = by_bool (has_double cmp ks)
      (λ h.
      let less = shorter ks h in
      let few : length set ≤ length less.0 = few_distinct set less.0 (ascending_distinct set asc) (λ z has. less.2 z ((members z).0 has)) in
      lt-ltb (length set) (length ks) (omega (arith, less.1, few)) ∙ sym h)
      (λ h. le-ltb (length set) (length ks) (few_distinct ks set (distinct ks h) (λ z has. (members z).1 has)) ∙ sym h)

  -- a search finds a key exactly where it is one of the set
  pub found_any : (k : K) (l : List K) (r : Result ℕ ℕ) → IsKeyPlace cmp k l r → is_ok r ≡ list_any (eq_by_cmp cmp k) l
  found_any k l (Ok n) is = sym (contains_any k l (n, is.0, is_order.exact (get_or l n k) k (is.1 k)))
  found_any k l (Err n) is = by_bool (list_any (eq_by_cmp cmp k) l)
      (λ h.
      let has = any_contains k l h in
      let tied : cmp (get_or l has.0 k) k ≡ Equal = ap (λ (y : K). cmp y k) has.2 ∙ same cmp is_order k in
      by_bool (nat_lt has.0 n)
      (λ lt. let no : Less ≡ Equal = sym (is.1 has.0 k (omega arith) (ltb-true has.0 n lt)) ∙ tied in absurd (cc))
      (λ ge. let no : Greater ≡ Equal = sym (is.2 has.0 k (ltb-false has.0 n ge) has.1) ∙ tied in absurd (cc)))
      (λ h. sym h)

-- the order of prefixes, as the code and as the specification say it
pub key_order-as : (R : Cidr → Cidr → Ordering) → ((x y : Cidr) → prefix_cmp x y ≡ R x y) → IsKeyOrder R
key_order-as R same_at_each = subst (λ (S : Cidr → Cidr → Ordering). IsKeyOrder S) (λ i x y. same_at_each x y i) prefix_order

pub same-as_given : (set all given : List Cidr) → all ≡ given → ((p : Cidr) → Contains set p ↔ Contains all p) → (p : Cidr) → Contains set p ↔ Contains given p
same-as_given set all given is members p = subst (λ (l : List Cidr). Contains set p ↔ Contains l p) is (members p)

pub length-map : {A B : Type 0} (f : A → B) (xs : List A) → length (map f xs) ≡ length xs
length-map f [] = refl
length-map f (x ∷ xs) = ap suc (length-map f xs)
