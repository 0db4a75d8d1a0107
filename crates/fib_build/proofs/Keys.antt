-- Keys of entries, and keys past another.
use Rattle.std.proofs.Common.{◌≡◌, ◌≢◌, ◌<◌, ◌≤◌, Bool, true, false, Option, None, Some, List, [], ◌∷◌, ◌⊎◌, length, refl, sym, ap, ◌∙◌, subst, inl, inr, arith}
use Rattle.std.specs.List.{AllByRecursion, Contains, filter}
use Rattle.std.specs.List.Sorted.{IsStrictlySortedBy}
use Rattle.std.specs.Ordering.{is_lt, is_le}
use Rattle.std.specs.declared.cmp.Ordering.{Ordering}
use Rattle.std.specs.declared.cmp.Ordering.TheVariants.{Less, Equal, Greater}
use Rattle.std.proofs.lemmas.Bool.{cond_both}
use Rattle.keyed.specs.Cases.{none_some}
use Rattle.keyed.specs.Keyed.{at, IsBelow, Ascends}
use Rattle.keyed.specs.KeyedLaws.{by_order, decide, same}
use Rattle.keyed.specs.Members.{contains_cases, contains_first, contains_later, contains_none, contains_map, map_contains}
use Rattle.keyed.specs.ValueLaws.{among-at, at-among}
use Rattle.net_types.specs.declared.table.RouteKey.{RouteKey}
use Rattle.net_types.specs.KeyOrder.{route_cmp, route_order}
use Rattle.switch_model.specs.Looking.{is_past}
use Rattle.switch_model.specs.declared.record.FibEntry.{FibEntry}
use Rattle.keyed.specs.Ranges.{keys_of}

-- a key of the entries has one
pub key-at : (key : RouteKey) (entries : List (RouteKey × FibEntry)) → Ascends route_cmp entries → Contains (keys_of entries) key → at route_cmp key entries ≡ None → ⊥
key-at key entries asc has none =
    let e = contains_map (λ x. x.0) entries key has in
    let some : at route_cmp e.0.0 entries ≡ Some e.0.1 = at-among route_cmp route_order e.0 entries asc (e.1.0, (e.1.1, sym e.1.2)) in
    none_some (sym none ∙ ap (λ (k : RouteKey). at route_cmp k entries) (sym e.2) ∙ some)

pub at-key : (key : RouteKey) (entries : List (RouteKey × FibEntry)) (entry : FibEntry) → at route_cmp key entries ≡ Some entry → Contains (keys_of entries) key
at-key key entries entry is =
    let there = among-at route_cmp route_order key entry entries is in
    map_contains (λ x. x.0) entries (key, entry) (there.0, there.1.0, sym there.1.1)

pub absent-at : (key : RouteKey) (entries : List (RouteKey × FibEntry)) → (Contains (keys_of entries) key → ⊥) → at route_cmp key entries ≡ None
absent-at key entries absent = by (at route_cmp key entries) refl
  where
    by : (o : Option FibEntry) → at route_cmp key entries ≡ o → at route_cmp key entries ≡ None
    by None is = is
    by (Some entry) is = absurd (absent (at-key key entries entry is))

-- whether a key is among some
pub decide_has : (key : RouteKey) (keys : List RouteKey) → Contains keys key ⊎ (Contains keys key → ⊥)
decide_has key [] = inr (contains_none key)
decide_has key (k ∷ ks) = elim (decide route_cmp route_order key k) [
  | inl is ↦ inl (subst (λ (x : RouteKey). Contains (k ∷ ks) x) (sym is) (contains_first k ks))
  | inr apart ↦ elim (decide_has key ks) [
    | inl has ↦ inl (contains_later k ks key has)
    | inr absent ↦ inr (λ has. elim (contains_cases k ks key has) [ inl is ↦ apart is | inr rest ↦ absent rest ])
  ]
]

-- keys past another
lt-is : (o : Ordering) → is_lt o ≡ true → o ≡ Less
lt-is Less h = refl
lt-is Equal h = absurd (cc)
lt-is Greater h = absurd (cc)

pub past_more : (last : Option RouteKey) (key k : RouteKey) → is_past last key ≡ true → is_past (Some key) k ≡ true → is_past last k ≡ true
past_more None key k first second = refl
past_more (Some from) key k first second = ap is_lt (route_order.total.trans from key k (lt-is (route_cmp from key) first) (lt-is (route_cmp key k) second))

pub not_past : (key : RouteKey) → is_past (Some key) key ≡ false
not_past key = ap is_lt (same route_cmp route_order key)

pub past_apart : (key k : RouteKey) → is_past (Some key) k ≡ true → k ≢ key
past_apart key k past is = let no : true ≡ false = sym past ∙ ap (λ (x : RouteKey). is_past (Some key) x) is ∙ not_past key in cc

-- what isn't past a key is it, or is below it
pub below_or_same : (key k : RouteKey) → is_past (Some key) k ≡ false → (k ≡ key) ⊎ (is_le (route_cmp key k) ≡ false)
below_or_same key k not = by_order (route_cmp key k)
    (λ o. let no : true ≡ false = ap is_lt (sym o) ∙ not in absurd (cc))
    (λ o. inl (sym (route_order.exact key k o)))
    (λ o. inr (ap is_le o))

-- fewer keys are past a later one
filter_within : {K : Type 0} (p q : K → Bool) (xs : List K) → ((x : K) → p x ≡ true → q x ≡ true) → length (filter p xs) ≤ length (filter q xs)
filter_within p q [] within = omega arith
filter_within p q (x ∷ xs) within = cond_both (p x) (x ∷ filter p xs) (filter p xs) (λ l. length l ≤ length (filter q (x ∷ xs)))
    (λ first. rw (within x first) (omega (arith, filter_within p q xs within)))
    (λ _. cond_both (q x) (x ∷ filter q xs) (filter q xs) (λ l. length (filter p xs) ≤ length l) (λ _. omega (arith, filter_within p q xs within)) (λ _. filter_within p q xs within))

pub filter_fewer : {K : Type 0} (p q : K → Bool) (xs : List K) → ((x : K) → p x ≡ true → q x ≡ true) → (k : K) → Contains xs k → q k ≡ true → p k ≡ false → length (filter p xs) < length (filter q xs)
filter_fewer p q [] within k has inside outside = absurd (contains_none k has)
filter_fewer p q (x ∷ xs) within k has inside outside = elim (contains_cases x xs k has) [
  | inl is ↦
      let p_x : p x ≡ false = ap p (sym is) ∙ outside in
      let q_x : q x ≡ true = ap q (sym is) ∙ inside in
      rw (p_x, q_x) (omega (arith, filter_within p q xs within))
  | inr rest ↦
      let fewer = filter_fewer p q xs within k rest inside outside in
      cond_both (p x) (x ∷ filter p xs) (filter p xs) (λ l. length l < length (filter q (x ∷ xs)))
      (λ first. rw (within x first) (omega (arith, fewer)))
      (λ _. cond_both (q x) (x ∷ filter q xs) (filter q xs) (λ l. length (filter p xs) < length l) (λ _. omega (arith, fewer)) (λ _. fewer))
]

-- keys of entries that ascend do
keys_above : (key : RouteKey) (entries : List (RouteKey × FibEntry)) → IsBelow route_cmp key entries → Ascends route_cmp entries → AllByRecursion (λ y. route_cmp key y ≡ Less) (keys_of entries)
keys_above key [] below asc = tt
keys_above key (e ∷ es) below asc = (below, all_past es (keys_above e.0 es asc.0 asc.1))
  where
    all_past : (l : List (RouteKey × FibEntry)) → AllByRecursion (λ y. route_cmp e.0 y ≡ Less) (keys_of l) → AllByRecursion (λ y. route_cmp key y ≡ Less) (keys_of l)
    all_past [] all = tt
    all_past (x ∷ xs) all = (route_order.total.trans key e.0 x.0 below all.0, all_past xs all.1)

pub keys-ascend : (entries : List (RouteKey × FibEntry)) → Ascends route_cmp entries → IsStrictlySortedBy route_cmp (keys_of entries)
unfolding IsStrictlySortedBy
keys-ascend [] asc = tt
keys-ascend (e ∷ es) asc = (keys_above e.0 es asc.0 asc.1, keys-ascend es asc.1)
