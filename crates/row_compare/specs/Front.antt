-- Two lists of rows, taken off side by side.
use Rattle.std.specs.Prelude.{◌≡◌, ◌||◌, true, Option, None, Some, is_some, List, [], ◌∷◌}
use Rattle.std.specs.declared.cmp.Ordering.{Ordering}
use Rattle.std.specs.declared.cmp.Ordering.TheVariants.{Less, Greater}
use Rattle.keyed.specs.Keyed.{IsBelow}
use Rattle.chip_core.specs.ChangeLists.{Change}

-- how the first key of one list is to that of another, where an empty list comes last
abbrev pub first_of : {K V : Type 0} → (K → K → Ordering) → Option (K × V) → Option (K × V) → Option Ordering
first_of cmp None None = None
first_of cmp (Some e) None = Some Less
first_of cmp None (Some f) = Some Greater
first_of cmp (Some e) (Some f) = Some (cmp e.0 f.0)

-- an entry of the old list alone, of the new one alone, or of both
abbrev pub row_of_old : {K V : Type 0} → Option (K × V) → Option (Change K V)
row_of_old None = None
row_of_old (Some e) = Some (e.0, Some e.1, None)

abbrev pub row_of_new : {K V : Type 0} → Option (K × V) → Option (Change K V)
row_of_new None = None
row_of_new (Some e) = Some (e.0, None, Some e.1)

abbrev pub row_of_both : {K V : Type 0} → Option (K × V) → Option (K × V) → Option (Change K V)
row_of_both (Some e) (Some f) = Some (e.0, Some e.1, Some f.1)
row_of_both _ _ = None

-- the row of a key in front of the rows of later keys, where it has one
abbrev pub with_first : {K V : Type 0} → K → Option V → List (K × V) → List (K × V)
with_first k None rows = rows
with_first k (Some v) rows = (k, v) ∷ rows

-- the key stood in front of one of the two lists or of both, and is below the keys that are left
pub record IsLeast {K V : Type 0} (cmp : K → K → Ordering) (old new old_left new_left : List (K × V)) (c : Change K V) : Type 0 where
  pub old_is : old ≡ with_first c.0 c.1 old_left
  pub new_is : new ≡ with_first c.0 c.2 new_left
  pub below_old : IsBelow cmp c.0 old_left
  pub below_new : IsBelow cmp c.0 new_left
  pub there : (is_some c.1 || is_some c.2) ≡ true

-- what is taken off two lists: their least key with its row in each, and nothing where both are empty
abbrev pub AreTaken : {K V : Type 0} → (K → K → Ordering) → List (K × V) → List (K × V) → List (K × V) → List (K × V) → Option (Change K V) → Type 0
AreTaken cmp old new old_left new_left None = (old ≡ []) × (new ≡ [])
AreTaken cmp old new old_left new_left (Some c) = IsLeast cmp old new old_left new_left c
