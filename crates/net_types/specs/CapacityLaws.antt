-- Which table is the first over its capacity.
use Rattle.std.proofs.Common.{◌≡◌, ◌<◌, ◌≤◌, Some, None, List, [], ◌∷◌, ◌++◌, refl}
use Rattle.std.specs.List.{AllByRecursion}
use Rattle.std.proofs.lemmas.Bool.{le-ltb, lt-ltb}
use Rattle.net_types.specs.Capacity.{Filling, first_over}

-- none of these tables has more rows than it has room for
abbrev pub AreWithin : List Filling → Type 0
AreWithin fs = AllByRecursion (λ f. f.rows ≤ f.room) fs

-- the first that has too many stands behind such
pub first-over : (fs : List Filling) (f : Filling) (rest : List Filling) → AreWithin fs → f.room < f.rows → first_over (fs ++ f ∷ rest) ≡ Some f.table
first-over [] f rest within full = rw (lt-ltb f.room f.rows full) refl
first-over (g ∷ gs) f rest within full = rw (le-ltb g.room g.rows within.0) (first-over gs f rest within.1 full)

pub none-over : (fs : List Filling) → AreWithin fs → first_over fs ≡ None
none-over [] within = refl
none-over (f ∷ fs) within = rw (le-ltb f.room f.rows within.0) (none-over fs within.1)
