-- What holds of the entries of a list that ascends by key, said by look-ups alone.
use Rattle.std.specs.Prelude.{◌≡◌, ◌≢◌, Some, List}
use Rattle.std.specs.declared.cmp.Ordering.{Ordering}
use Rattle.keyed.specs.Keyed.{at}

-- each entry is such, by its key and its value
pub record Every {K V : Type 0} (cmp : K → K → Ordering) (Is : K → V → Type 0) (l : List (K × V)) : Type 0 where
  pub every : (k : K) (v : V) → at cmp k l ≡ Some v → Is k v

-- the values of each two entries with different keys are such
pub record EachTwo {K V : Type 0} (cmp : K → K → Ordering) (Are : V → V → Type 0) (l : List (K × V)) : Type 0 where
  pub two : (j k : K) (v w : V) → j ≢ k → at cmp j l ≡ Some v → at cmp k l ≡ Some w → Are v w

-- a value stands under the key, and is such
pub record Has {K V : Type 0} (cmp : K → K → Ordering) (k : K) (Is : V → Type 0) (l : List (K × V)) : Type 0 where
  pub value : V
  pub there : at cmp k l ≡ Some value
  pub such : Is value
