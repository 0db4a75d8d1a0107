-- What holds of the keys under which two lists of entries differ, for a test that tells values apart.
use Rattle.std.proofs.Common.{◌≡◌, ◌≢◌, ◌⊎◌, Bool, true, not, Option, None, Some, List, [], ◌++◌, length, map, refl, sym, ap, subst, ◌∙◌, inl, inr}
use Rattle.std.specs.Bool.{Decides}
use Rattle.std.specs.List.{Contains}
use Rattle.std.specs.List.Sorted.{IsStrictlySortedBy}
use Rattle.std.specs.Option.{option_eq}
use Rattle.std.specs.declared.cmp.Ordering.{Ordering}
use Rattle.std.proofs.lemmas.Bool.{cases_Bool, false≢true, not-true}
use Rattle.std.proofs.lemmas.List.{nil_from_length}
use Rattle.std.proofs.lemmas.List.Elements.{Contains-append_left, Contains-append_right}
use Rattle.keyed.specs.Differing.{AreDifferingKeys, differing_keys, keys_of_both}
use Rattle.keyed.specs.EntryLaws.{key_there}
use Rattle.keyed.specs.Keyed.{IsKeyOrder, at, Ascends}
use Rattle.keyed.specs.KeyedLaws.{same_at}
use Rattle.keyed.specs.ListLaws.{sorted_filter}
use Rattle.keyed.specs.Members.{contains_none, contains_filter, filter_contains}
use Rattle.keyed.specs.SetLaws.{ascends-set_of, same_members, set_of_contains}

module _ {V : Type 0} (same : V → V → Bool) (tells : (x y : V) → Decides (same x y) (x ≡ y)) where
  row_exact : (o p : Option V) → option_eq same o p ≡ true → o ≡ p
  row_exact None None e = refl
  row_exact None (Some y) e = absurd (false≢true e)
  row_exact (Some x) None e = absurd (false≢true e)
  row_exact (Some x) (Some y) e = ap Some ((tells x y).0 e)

  row_holds : (o : Option V) → option_eq same o o ≡ true
  row_holds None = refl
  row_holds (Some x) = (tells x x).1 refl

  apart_some : (o p : Option V) → o ≢ p → ((v : V) × (o ≡ Some v)) ⊎ ((v : V) × (p ≡ Some v))
  apart_some None None ne = absurd (ne refl)
  apart_some None (Some y) ne = inr (y, refl)
  apart_some (Some x) p ne = inl (x, refl)

  apart_test : (o p : Option V) → o ≢ p → not (option_eq same o p) ≡ true
  apart_test o p ne = elim (cases_Bool (option_eq same o p)) [
    | inl e ↦ absurd (ne (row_exact o p e))
    | inr e ↦ ap not e
  ]

  test_apart : (o p : Option V) → not (option_eq same o p) ≡ true → o ≢ p
  test_apart o p e is =
      let holds : option_eq same o p ≡ true = subst (λ (x : Option V). option_eq same o x ≡ true) is (row_holds o) in
      false≢true (sym (not-true (option_eq same o p) e) ∙ holds)

module _ {K V : Type 0} (cmp : K → K → Ordering) (order : IsKeyOrder cmp) where
  module _ (same : V → V → Bool) (tells : (x y : V) → Decides (same x y) (x ≡ y)) where
    in_both : (k : K) (xs ys : List (K × V)) → at cmp k xs ≢ at cmp k ys → Contains (keys_of_both cmp xs ys) k
    in_both k xs ys ne =
        let left : List K = map (λ (e : K × V). e.0) xs in
        let right : List K = map (λ (e : K × V). e.0) ys in
        set_of_contains cmp order (left ++ right) k (elim (apart_some same tells (at cmp k xs) (at cmp k ys) ne) [
          | inl here ↦ Contains-append_left left right k (key_there cmp order k here.0 xs here.1)
          | inr there ↦ Contains-append_right left right k (key_there cmp order k there.0 ys there.1)
        ])

    -- the keys that differ are those that have different rows
    pub differing-are : (xs ys : List (K × V)) → AreDifferingKeys cmp (differing_keys cmp same xs ys) xs ys
    differing-are xs ys =
        let p : K → Bool = λ k. not (option_eq same (at cmp k xs) (at cmp k ys)) in
        record {
          ascend = sorted_filter cmp p (keys_of_both cmp xs ys) (ascends-set_of cmp order.total (map (λ (e : K × V). e.0) xs ++ map (λ (e : K × V). e.0) ys));
          each = λ k. (
            (λ has. test_apart same tells (at cmp k xs) (at cmp k ys) (contains_filter p (keys_of_both cmp xs ys) k has).1),
            (λ ne. filter_contains p (keys_of_both cmp xs ys) k (in_both k xs ys ne) (apart_test same tells (at cmp k xs) (at cmp k ys) ne)),
          );
        }

    -- and any list of exactly those is that one
    pub differing-same : (keys : List K) (xs ys : List (K × V)) → AreDifferingKeys cmp keys xs ys → keys ≡ differing_keys cmp same xs ys
    differing-same keys xs ys are =
        let own = differing-are xs ys in
        same_members cmp order keys (differing_keys cmp same xs ys) are.ascend own.ascend (λ k. ((λ has. (own.each k).1 ((are.each k).0 has)), (λ has. (are.each k).1 ((own.each k).0 has))))

    -- nothing differs from itself, and as much from one to the other as back
    no_keys : (xs : List (K × V)) → AreDifferingKeys cmp [] xs xs
    unfolding IsStrictlySortedBy
    no_keys xs = record { ascend = tt; each = λ k. ((λ has. absurd (contains_none k has)), (λ ne. absurd (ne refl))) }

    pub differing-none : (xs : List (K × V)) → length (differing_keys cmp same xs xs) ≡ 0
    differing-none xs = ap length (sym (differing-same [] xs xs (no_keys xs)))

    pub differing-turned : (xs ys : List (K × V)) → length (differing_keys cmp same xs ys) ≡ length (differing_keys cmp same ys xs)
    differing-turned xs ys =
        let own = differing-are xs ys in
        ap length (differing-same (differing_keys cmp same xs ys) ys xs (record { ascend = own.ascend; each = λ k. ((λ has e. (own.each k).0 has (sym e)), (λ ne. (own.each k).1 (λ e. ne (sym e)))) }))

    -- where nothing differs the two are the same
    pub differing-zero : (xs ys : List (K × V)) → Ascends cmp xs → Ascends cmp ys → length (differing_keys cmp same xs ys) ≡ 0 → xs ≡ ys
    differing-zero xs ys a b zero_long =
        let own = differing-are xs ys in
        let none : differing_keys cmp same xs ys ≡ [] = nil_from_length (differing_keys cmp same xs ys) zero_long in
        same_at cmp order xs ys a b (λ k. elim (cases_Bool (option_eq same (at cmp k xs) (at cmp k ys))) [
          | inl e ↦ row_exact same tells (at cmp k xs) (at cmp k ys) e
          | inr e ↦
              let has : Contains (differing_keys cmp same xs ys) k = (own.each k).1 (test_apart same tells (at cmp k xs) (at cmp k ys) (ap not e)) in
              absurd (contains_none k (subst (λ (l : List K). Contains l k) none has))
        ])
