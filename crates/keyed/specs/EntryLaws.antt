-- Entries as items of their list, and entries that are made of keys.
use Rattle.std.proofs.Common.{◌≡◌, List, [], ◌∷◌, Option, None, Some, refl, sym, ap, ◌∙◌, subst, map}
use Rattle.std.specs.List.{AllByRecursion, Contains}
use Rattle.std.specs.List.Sorted.{IsStrictlySortedBy}
use Rattle.std.specs.declared.cmp.Ordering.{Ordering}
use Rattle.std.specs.declared.cmp.Ordering.TheVariants.{Less}
use Rattle.keyed.specs.Cases.{none_some}
use Rattle.keyed.specs.EveryLaws.{at-put_cases}
use Rattle.keyed.specs.Keyed.{IsKeyOrder, at, Ascends, IsBelow}
use Rattle.keyed.specs.KeyedLaws.{by_order, below_before}
use Rattle.keyed.specs.Members.{contains_first, contains_later}
use Rattle.keyed.specs.Sets.{put_some, entries_at}
use Rattle.keyed.specs.ValueLaws.{among-at, at-among}

module _ {K V : Type 0} (cmp : K → K → Ordering) (order : IsKeyOrder cmp) where
  -- an entry is what stands under its key, and what stands under a key is an entry
  pub contains_at : (e : K × V) (l : List (K × V)) → Ascends cmp l → Contains l e → at cmp e.0 l ≡ Some e.1
  contains_at e l asc (k, lt, is) = at-among cmp order e l asc (k, (lt, sym is))

  pub at_contains : (k : K) (v : V) (l : List (K × V)) → at cmp k l ≡ Some v → Contains l (k, v)
  at_contains k v l is = let there = among-at cmp order k v l is in (there.0, there.1.0, sym there.1.1)

  -- what stands among entries made of keys
  made_by : (f : K → Option V) (q k : K) (v : V) (ks : List K) (o : Option V) → f k ≡ o → at cmp q (put_some cmp k o (entries_at cmp f ks)) ≡ Some v → (at cmp q (entries_at cmp f ks) ≡ Some v → (f q ≡ Some v) × Contains ks q) → (f q ≡ Some v) × Contains (k ∷ ks) q
  made_by f q k v ks None of_k is rest = let found = rest is in (found.0, contains_later k ks q found.1)
  made_by f q k v ks (Some w) of_k is rest = at-put_cases cmp order q k w v (entries_at cmp f ks) is
      (λ key value. let P : K → Type 0 = λ x. (f x ≡ Some v) × Contains (k ∷ ks) x in subst P (sym key) (of_k ∙ ap Some value, contains_first k ks))
      (λ apart was. let found = rest was in (found.0, contains_later k ks q found.1))

  pub entry_made : (f : K → Option V) (q : K) (v : V) (ks : List K) → at cmp q (entries_at cmp f ks) ≡ Some v → (f q ≡ Some v) × Contains ks q
  entry_made f q v [] is = absurd (none_some is)
  entry_made f q v (k ∷ ks) is = made_by f q k v ks (f k) refl is (λ was. entry_made f q v ks was)

-- keys of entries
module _ {K V : Type 0} (cmp : K → K → Ordering) (order : IsKeyOrder cmp) where
  -- what has a row is a key
  pub key_there : (k : K) (v : V) (l : List (K × V)) → at cmp k l ≡ Some v → Contains (map (λ e. e.0) l) k
  key_there k v [] is = absurd (none_some is)
  key_there k v (e ∷ es) is = by_order (cmp k e.0)
      (λ h. let nothing : None ≡ Some v = rw h at is in absurd (none_some nothing))
      (λ h. subst (λ (x : K). Contains (e.0 ∷ map (λ (y : K × V). y.0) es) x) (sym (order.exact k e.0 h)) (contains_first e.0 (map (λ (y : K × V). y.0) es)))
      (λ h. let later : at cmp k es ≡ Some v = rw h at is in contains_later e.0 (map (λ (y : K × V). y.0) es) k (key_there k v es later))

  -- keys of entries that ascend
  above_keys : (k : K) (es : List (K × V)) → IsBelow cmp k es → Ascends cmp es → AllByRecursion (λ y. cmp k y ≡ Less) (map (λ e. e.0) es)
  above_keys k [] below asc = tt
  above_keys k (e ∷ es) below asc = (below, above_keys k es (below_before cmp order k e.0 es below asc.0) asc.1)

  pub sorted_keys : (es : List (K × V)) → Ascends cmp es → IsStrictlySortedBy cmp (map (λ e. e.0) es)
  unfolding IsStrictlySortedBy
  sorted_keys [] asc = tt
  sorted_keys (e ∷ es) asc = (above_keys e.0 es asc.0 asc.1, sorted_keys es asc.1)
