-- Rows in chunks, each with room for so many.
use Rattle.std.specs.Prelude.{◌≡◌, ◌≤◌, ◌<◌, ◌+◌, ◌*◌, ◌^◌, ℕ, All, List, [], ◌∷◌, ◌++◌, drop, length, map, slice_index_or, take}
use Rattle.std.specs.declared.cmp.Ordering.{Ordering}
use Rattle.std.specs.declared.cmp.Ordering.TheVariants.{Less}
use Rattle.keyed.specs.Keyed.{Ascends}
use Rattle.sorted_table.specs.Rows.{half}
use Rattle.sorted_table.specs.declared.chunk.Chunk.{Chunk}

-- the rows of each chunk
abbrev pub parts : {K V : Type 0} → List (Chunk K V) → List (List (K × V))
parts chunks = map (λ c. c.rows.items) chunks

-- the rows of all chunks, one chunk after another
abbrev pub joined : {A : Type 0} → List (List A) → List A
joined [] = []
joined (p ∷ ps) = p ++ joined ps

-- each row's key is below the key
abbrev pub AreBelow : {K V : Type 0} → (K → K → Ordering) → List (K × V) → K → Type 0
AreBelow cmp [] k = Unit {0}
AreBelow cmp (e ∷ es) k = (cmp e.0 k ≡ Less) × AreBelow cmp es k

-- two parts have rows, and together more than half a chunk has room for
pub record ArePair {A : Type 0} (p q : List A) : Type 0 where
  pub first : 0 < length p
  pub second : 0 < length q
  pub both : half < length p + length q

-- a part makes a pair with the next one, where there is one
abbrev pub IsFilledBy : {A : Type 0} → List A → List (List A) → Type 0
IsFilledBy p [] = Unit {0}
IsFilledBy p (q ∷ qs) = ArePair p q

-- and so do any two neighbours
abbrev pub AreFilled : {A : Type 0} → List (List A) → Type 0
AreFilled [] = Unit {0}
AreFilled (p ∷ ps) = IsFilledBy p ps × AreFilled ps

-- parts, one of which may have taken in the next: the rows stay, and from that place on they are filled
pub record IsJoined {A : Type 0} (n : ℕ) (old new : List (List A)) : Type 0 where
  pub rows : joined new ≡ joined old
  pub before : take n new ≡ take n old
  pub filled : AreFilled (drop n new)
  pub more : length (slice_index_or old n []) ≤ length (slice_index_or new n [])
  pub within : n < length new

-- the parts of a table
pub record IsParted {K V : Type 0} (cmp : K → K → Ordering) (ps : List (List (K × V))) : Type 0 where
  pub ascends : Ascends cmp (joined ps)
  pub filled : AreFilled ps
  pub some : 0 < length ps

-- chunks without rows
abbrev pub AreEmpty : {K V : Type 0} → List (Chunk K V) → Type 0
AreEmpty chunks = All (λ c. length c.rows.items ≡ 0) chunks

-- a table's parts and spare chunks, the count of its rows, and the room that it has for chunks
pub record IsSound {K V : Type 0} (cmp : K → K → Ordering) (ps : List (List (K × V))) (spare : List (Chunk K V)) (chunk_room spare_room count capacity : ℕ) : Type 0 where
  pub parted : IsParted cmp ps
  pub empty : AreEmpty spare
  pub counted : count ≡ length (joined ps)
  pub fits : count ≤ capacity
  pub many : 2 * capacity + (half + 1) < (half + 1) * (length ps + length spare)
  pub has_chunks : length ps + length spare ≤ chunk_room
  pub has_spare : length ps + length spare ≤ spare_room
  pub small : capacity < 2 ^ 32
