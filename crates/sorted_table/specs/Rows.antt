-- Rows by ascending key, with room for a number of them.
use Rattle.std.specs.Prelude.{◌≤◌, ℕ, Option, None, Some, List, [], ◌∷◌, length}
use Rattle.std.specs.declared.cmp.Ordering.{Ordering}
use Rattle.std.specs.Coded.{le_prop}
use Rattle.keyed.specs.Keyed.{Ascends}
use Rattle.keyed.specs.Props.{Ascends-prop}

-- the first row
abbrev pub first_of : {A : Type 0} → List A → Option A
first_of [] = None
first_of (e ∷ es) = Some e

-- how many rows a chunk has room for
abbrev pub room : ℕ
room = 64

-- and half of that
abbrev pub half : ℕ
half = 32

-- rows by key, no more than a capacity
pub record IsSorted {K V : Type 0} (cmp : K → K → Ordering) (capacity : ℕ) (rows : List (K × V)) : Type 0 where
  pub ascends : Ascends cmp rows
  pub fits : length rows ≤ capacity

pub IsSorted-prop : {K V : Type 0} (cmp : K → K → Ordering) (capacity : ℕ) (rows : List (K × V)) → IsProp (IsSorted cmp capacity rows)
IsSorted-prop cmp capacity rows = λ a b i. record { ascends = Ascends-prop cmp rows a.ascends b.ascends i; fits = le_prop a.fits b.fits i }

-- a table as contracts see it
pub record TableView (K V : Type 0) : Type 0 where
  pub rows : List (K × V)
  pub capacity : ℕ
