-- Two lists of entries as one.
use Rattle.std.specs.Prelude.{List, [], ◌∷◌}
use Rattle.std.specs.declared.cmp.Ordering.{Ordering}
use Rattle.keyed.specs.Keyed.{put}

-- the entries of both lists by ascending key; under a key of both stands the first list's value
abbrev pub together : {K V : Type 0} → (K → K → Ordering) → List (K × V) → List (K × V) → List (K × V)
together cmp [] others = others
together cmp (e ∷ es) others = put cmp e.0 e.1 (together cmp es others)
