-- The keys under which two lists of entries differ.
use Rattle.std.specs.Prelude.{◌≢◌, ◌↔◌, Bool, not, List, ◌++◌, filter, map}
use Rattle.std.specs.List.{Contains}
use Rattle.std.specs.List.Sorted.{IsStrictlySortedBy}
use Rattle.std.specs.Option.{option_eq}
use Rattle.std.specs.declared.cmp.Ordering.{Ordering}
use Rattle.keyed.specs.Keyed.{at}
use Rattle.keyed.specs.Sets.{set_of}

-- the keys of two lists of entries, each once and ascending
abbrev pub keys_of_both : {K V : Type 0} → (K → K → Ordering) → List (K × V) → List (K × V) → List K
keys_of_both cmp xs ys = set_of cmp (map (λ e. e.0) xs ++ map (λ e. e.0) ys)

-- those under which the two haven't the same, by a test of values: one has a value and the other none, or the values differ
abbrev pub differing_keys : {K V : Type 0} → (K → K → Ordering) → (V → V → Bool) → List (K × V) → List (K × V) → List K
differing_keys cmp same xs ys = filter (λ k. not (option_eq same (at cmp k xs) (at cmp k ys))) (keys_of_both cmp xs ys)

-- the list has exactly the keys under which the two differ, ascending
pub record AreDifferingKeys {K V : Type 0} (cmp : K → K → Ordering) (keys : List K) (xs ys : List (K × V)) : Type 0 where
  pub ascend : IsStrictlySortedBy cmp keys
  pub each : (k : K) → Contains keys k ↔ (at cmp k xs ≢ at cmp k ys)
