-- Indexes of entries: what the entries give, each once and in order.
use Rattle.std.specs.Prelude.{List, [], ◌∷◌, Option, None, Some}
use Rattle.std.specs.List.{flat_map}
use Rattle.std.specs.declared.cmp.Ordering.{Ordering}
use Rattle.keyed.specs.Keyed.{put, without}
use Rattle.keyed.specs.Sets.{insert, delete, set_of}

-- what the entries give, each once and ascending
abbrev pub index_of : {K V X : Type 0} → (X → X → Ordering) → (K × V → List X) → List (K × V) → List X
index_of cmp gives entries = set_of cmp (flat_map gives entries)

-- what the entry under the key gives, where it has a value
abbrev pub given : {K V X : Type 0} → (K × V → List X) → K → Option V → List X
given gives key None = []
given gives key (Some value) = gives (key, value)

-- the entries once the one under the key has that value, or is gone
abbrev pub entry_changed : {K V : Type 0} → (K → K → Ordering) → K → Option V → List (K × V) → List (K × V)
entry_changed cmp key None entries = without cmp key entries
entry_changed cmp key (Some value) entries = put cmp key value entries

-- with each of the items
abbrev pub with_all : {X : Type 0} → (X → X → Ordering) → List X → List X → List X
with_all cmp [] xs = xs
with_all cmp (y ∷ ys) xs = with_all cmp ys (insert cmp y xs)

-- without any of the items
abbrev pub without_all : {X : Type 0} → (X → X → Ordering) → List X → List X → List X
without_all cmp [] xs = xs
without_all cmp (y ∷ ys) xs = without_all cmp ys (delete cmp y xs)
