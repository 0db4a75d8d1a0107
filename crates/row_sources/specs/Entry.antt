-- Entries of keys that may have a value.
use Rattle.std.specs.Prelude.{Option, None, Some, List, [], ◌∷◌}

-- the key with its value, where it has one
abbrev pub entry_of : {K V : Type 0} → K → Option V → List (K × V)
entry_of key None = []
entry_of key (Some value) = (key, value) ∷ []
