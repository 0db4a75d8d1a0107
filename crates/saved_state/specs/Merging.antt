-- Two lists of neighbours that are made one.
use Rattle.std.specs.Prelude.{◌≡◌, ℕ, List, [], ◌∷◌, ◌++◌}
use Rattle.std.specs.List.{AllByRecursion}
use Rattle.std.specs.declared.cmp.Ordering.TheVariants.{Less}
use Rattle.switch_model.specs.declared.key.NeighborKey.{NeighborKey}
use Rattle.switch_model.specs.declared.record.NeighborRec.{NeighborRec}
use Rattle.switch_model.specs.StateKeys.{neighbor_cmp}
use Rattle.state_keys.specs.PartKeys.{family}

abbrev pub Rows : Type 0
Rows = List (NeighborKey × NeighborRec)

-- each of the rows has an ip of the family
abbrev pub AreOfFamily : ℕ → Rows → Type 0
AreOfFamily of rows = AllByRecursion (λ e. family e.0.ip ≡ of) rows

-- each of the rows comes before the key
abbrev pub AreBefore : NeighborKey → Rows → Type 0
AreBefore key rows = AllByRecursion (λ e. neighbor_cmp e.0 key ≡ Less) rows

-- the first of the rows doesn't come before the key
abbrev pub IsNotBehind : NeighborKey → Rows → Type 0
IsNotBehind key [] = Unit {0}
IsNotBehind key (e ∷ es) = neighbor_cmp e.0 key ≡ Less → ⊥

-- some rows that come before the key are put last, and the others are left
pub record IsPushing (key : NeighborKey) (all left before after : Rows) : Type 0 where
  pub moved : Rows
  pub lower : AreBefore key moved
  pub whole : all ≡ moved ++ left
  pub put_last : after ≡ before ++ moved

-- the rows that come before the key are put last, and the others are left
pub record IsPushed (key : NeighborKey) (all left before after : Rows) : Type 0 where
  pub some : IsPushing key all left before after
  pub later : IsNotBehind key left
