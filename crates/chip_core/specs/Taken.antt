-- Values in numbered slots, and the slots that have none.
use Rattle.std.specs.Prelude.{◌≡◌, ◌+◌, ◌<◌, ◌^◌, ℕ, Option, None, Some, IsSome, List, [], ◌∷◌, length, slice_index_or}
use Rattle.std.specs.Ordering.{nat_cmp}
use Rattle.std.specs.declared.cmp.Ordering.{Ordering}
use Rattle.keyed.specs.Keyed.{at, Ascends}
use Rattle.keyed.specs.Named.{key_of, AreDistinct}

-- the values, each under its slot, where the first of these slots has that number
abbrev pub taken : {V : Type 0} → ℕ → List (Option V) → List (ℕ × V)
taken n [] = []
taken n (None ∷ os) = taken (n + 1) os
taken n (Some v ∷ os) = (n, v) ∷ taken (n + 1) os

-- something exactly where there is no value
abbrev pub gap_of : {V : Type 0} → Option V → Option (Unit {0})
gap_of None = Some tt
gap_of (Some v) = None

-- the slots without a value
pub record AreFree {V : Type 0} (slots : List (Option V)) (free : List (ℕ × Unit {0})) : Type 0 where
  pub gaps : (slot : ℕ) → slot < length slots → at nat_cmp slot free ≡ gap_of (slice_index_or slots slot None)
  pub within : (slot : ℕ) → IsSome (at nat_cmp slot free) → slot < length slots
  pub ascends : Ascends nat_cmp free
  pub count : length free + length (taken 0 slots) ≡ length slots

-- slots with their free ones, and an index of the names of what they hold
pub record AreNamed {N V : Type 0} (cmp : N → N → Ordering) (name : V → N) (slots : List (Option V)) (free : List (ℕ × Unit {0})) (index : List (N × ℕ)) (capacity index_capacity : ℕ) : Type 0 where
  pub gaps : AreFree slots free
  pub found : (n : N) → at cmp n index ≡ key_of cmp name n (taken 0 slots)
  pub distinct : AreDistinct cmp name (taken 0 slots)
  pub ascends : Ascends cmp index
  pub same_count : length index ≡ length (taken 0 slots)
  pub room : length slots ≡ capacity
  pub same_room : index_capacity ≡ capacity
  pub small : capacity < 2 ^ 32
