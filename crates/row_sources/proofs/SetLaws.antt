-- The distinct keys of a list, and the entries of keys.
use Rattle.std.proofs.Common.{◌≡◌, Bool, true, Option, None, Some, List, [], ◌∷◌, ◌++◌, refl, sym, ap, ◌∙◌, inl, inr}
use Rattle.std.proofs.lemmas.List.Filters.{dedup_is}
use Rattle.std.proofs.lemmas.List.Kept.{Contains-dedup, Contains-from_dedup, IsStrictlySortedBy-dedup}
use Rattle.std.specs.Cmp.{IsEquivalence, Equal-is}
use Rattle.std.specs.List.{AllByRecursion, Contains, dedup, flat_map}
use Rattle.std.specs.List.Retain.{DiffersFromLast, IsFiltered}
use Rattle.std.specs.List.Sorted.{IsSorted, IsStrictlySortedBy}
use Rattle.std.specs.Ordering.{eq_by_cmp}
use Rattle.std.specs.declared.cmp.Ordering.{Ordering}
use Rattle.std.specs.declared.cmp.Ordering.TheVariants.{Less}
use Rattle.keyed.specs.Keyed.{IsBelow, IsKeyOrder, at, put}
use Rattle.keyed.specs.KeyedLaws.{same_at}
use Rattle.keyed.specs.SetLaws.{ascends-entries_at, ascends-set_of, at-entries_at, at-entries_at_other, contains_set_of, is_set_of, set_of_contains}
use Rattle.keyed.specs.Sets.{entries_at, put_some, set_of}
use Rattle.row_laws.proofs.Tests.{find_key}
use Rattle.row_sources.specs.Entry.{entry_of}

pub distinct_is : {K : Type 0} (cmp : K → K → Ordering) → IsKeyOrder cmp → (same : K → K → Bool) → IsEquivalence same → ((x y : K) → same x y ≡ eq_by_cmp cmp x y) → (keys sorted result : List K) → ((x : K) → Contains sorted x → Contains keys x) → ((x : K) → Contains keys x → Contains sorted x) → IsSorted cmp sorted → IsFiltered (DiffersFromLast same) [] sorted result → result ≡ set_of cmp keys
distinct_is {K = K} cmp order same equivalence ties keys sorted result back there asc filtered =
    let one : (x y : K) → same x y ≡ true → x ≡ y = λ x y e. order.exact x y ((Equal-is (cmp x y)).0 (sym (ties x y) ∙ e)) in
    let set : List K = dedup same sorted in
    let is : result ≡ set = dedup_is same sorted result filtered in
    is ∙ is_set_of cmp order set keys (IsStrictlySortedBy-dedup order.total ties sorted asc) (λ x. (
      (λ has. back x (Contains-from_dedup same sorted x has)),
      (λ has. Contains-dedup equivalence one sorted x (there x has)),
    ))

module _ {K : Type 0} (cmp : K → K → Ordering) (order : IsKeyOrder cmp) where
  -- a set is known by its members
  pub same_set : (xs ys : List K) → ((x : K) → Contains xs x → Contains ys x) → ((x : K) → Contains ys x → Contains xs x) → set_of cmp xs ≡ set_of cmp ys
  same_set xs ys there back = is_set_of cmp order (set_of cmp xs) ys (ascends-set_of cmp order.total xs) (λ x. ((λ has. there x (contains_set_of cmp order xs x has)), (λ has. set_of_contains cmp order xs x (back x has))))

  module _ {V : Type 0} (f : K → Option V) where
    put_first : (k : K) (v : V) (es : List (K × V)) → IsBelow cmp k es → put cmp k v es ≡ (k, v) ∷ es
    put_first k v [] below = refl
    put_first k v (e ∷ es) below = rw below refl

    entry_first : (k : K) (o : Option V) (es : List (K × V)) → IsBelow cmp k es → put_some cmp k o es ≡ entry_of k o ++ es
    entry_first k None es below = refl
    entry_first k (Some v) es below = put_first k v es below

    entry_below : (j k : K) (o : Option V) (es : List (K × V)) → cmp j k ≡ Less → IsBelow cmp j es → IsBelow cmp j (entry_of k o ++ es)
    entry_below j k None es lt below = below
    entry_below j k (Some v) es lt below = lt

    all_below : (j : K) (ks : List K) → AllByRecursion (λ y. cmp j y ≡ Less) ks → IsBelow cmp j (flat_map (λ k. entry_of k (f k)) ks)
    all_below j [] all = tt
    all_below j (k ∷ ks) all = entry_below j k (f k) (flat_map (λ k. entry_of k (f k)) ks) all.0 (all_below j ks all.1)

    -- the entries of keys that ascend stand in their order
    sorted_entries : (ks : List K) → IsStrictlySortedBy cmp ks → entries_at cmp f ks ≡ flat_map (λ k. entry_of k (f k)) ks
    unfolding IsStrictlySortedBy
    sorted_entries [] asc = refl
    sorted_entries (k ∷ ks) asc =
        ap (λ (es : List (K × V)). put_some cmp k (f k) es) (sorted_entries ks asc.1)
        ∙ entry_first k (f k) (flat_map (λ k. entry_of k (f k)) ks) (all_below k ks asc.0)

    set_at : (ks : List K) (q : K) → at cmp q (entries_at cmp f (set_of cmp ks)) ≡ at cmp q (entries_at cmp f ks)
    set_at ks q = elim (find_key cmp order q ks) [
      | inl has ↦ at-entries_at cmp order f q (set_of cmp ks) (set_of_contains cmp order ks q has) ∙ sym (at-entries_at cmp order f q ks has)
      | inr absent ↦ at-entries_at_other cmp order f q (set_of cmp ks) (λ has. absent (contains_set_of cmp order ks q has)) ∙ sym (at-entries_at_other cmp order f q ks absent)
    ]

    -- the entries of a list of keys are those of its distinct keys, one by one
    pub entries_one_by_one : (ks : List K) → flat_map (λ k. entry_of k (f k)) (set_of cmp ks) ≡ entries_at cmp f ks
    entries_one_by_one ks =
        sym (sorted_entries (set_of cmp ks) (ascends-set_of cmp order.total ks))
        ∙ same_at cmp order (entries_at cmp f (set_of cmp ks)) (entries_at cmp f ks) (ascends-entries_at cmp order f (set_of cmp ks)) (ascends-entries_at cmp order f ks) (set_at ks)
