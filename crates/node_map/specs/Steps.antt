-- The steps of a walk: the first entry past a key, and what is left after it.
use Rattle.std.specs.Prelude.{ℕ, List, [], ◌∷◌, Option, None, Some, if◌then◌else◌, nat_lt}

-- the first entry whose key is above the key
abbrev pub after : {V : Type 0} → ℕ → List (ℕ × V) → Option (ℕ × V)
after key [] = None
after key (e ∷ es) = if nat_lt key e.0 then Some e else after key es

-- the entries from the first one on whose key is above the key
abbrev pub later_than : {V : Type 0} → ℕ → List (ℕ × V) → List (ℕ × V)
later_than key [] = []
later_than key (e ∷ es) = if nat_lt key e.0 then e ∷ es else later_than key es

-- the entries past the last key that was seen
abbrev pub later : {V : Type 0} → Option ℕ → List (ℕ × V) → List (ℕ × V)
later None es = es
later (Some key) es = later_than key es
