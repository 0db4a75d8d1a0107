-- All that differs between two maps, by ascending key.
use Rattle.std.specs.Prelude.{◌≡◌, ℕ, ◌<◌, List, [], ◌∷◌, Option, None, Some}
use Rattle.std.specs.Ordering.{nat_cmp}
use Rattle.keyed.specs.Keyed.{at, put, Ascends}
use Rattle.node_map.specs.TreeNode.{Entries}
use Rattle.state_delta.specs.Change.{ChangeView, change_of}

-- what differs under the key
abbrev pub change_at : {T : Type 0} → Entries T → Entries T → ℕ → Option (ChangeView T)
change_at old new key = change_of (at nat_cmp key old) (at nat_cmp key new)

-- the list has each key under which the maps differ, once and in order, with what differs there
pub record IsDelta {T : Type 0} (old new : Entries T) (changes : List (ℕ × ChangeView T)) : Type 0 where
  pub ascends : Ascends nat_cmp changes
  pub each : (key : ℕ) → at nat_cmp key changes ≡ change_at old new key

-- the entries of both, one under each key
abbrev pub joined : {T : Type 0} → Entries T → Entries T → Entries T
joined [] new = new
joined (e ∷ es) new = put nat_cmp e.0 e.1 (joined es new)

-- a value under each key that f gives one for
abbrev pub with_some : {W : Type 0} → ℕ → Option W → List (ℕ × W) → List (ℕ × W)
with_some key None rest = rest
with_some key (Some w) rest = (key, w) ∷ rest

abbrev pub given : {V W : Type 0} → (ℕ → Option W) → List (ℕ × V) → List (ℕ × W)
given f [] = []
given f (e ∷ es) = with_some e.0 (f e.0) (given f es)

-- the changes from the one list of entries to the other
abbrev pub delta : {T : Type 0} → Entries T → Entries T → List (ℕ × ChangeView T)
delta old new = given (change_at old new) (joined old new)

-- past the last key that was seen
abbrev pub IsPast : Option ℕ → ℕ → Type 0
IsPast None key = Unit {0}
IsPast (Some last) key = last < key

-- the first key past the last one for which f gives something, and what it gives
abbrev pub IsNext : {W : Type 0} → Option ℕ → (ℕ → Option W) → Option (ℕ × W) → Type 0
IsNext last f None = (key : ℕ) → IsPast last key → f key ≡ None
IsNext last f (Some e) = IsPast last e.0 × (f e.0 ≡ Some e.1) × ((key : ℕ) → IsPast last key → key < e.0 → f key ≡ None)
