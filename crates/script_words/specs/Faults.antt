-- Where words go wrong.
use Rattle.std.specs.Prelude.{◌≤◌, ◌≡◌, ◌<◌, ◌+◌, ℕ, List, ◌++◌, length, take}
use Rattle.script_words.specs.declared.fault.ReadFault.{ReadFault}
use Rattle.script_words.specs.declared.fault.ReadFault.TheVariants.{Memory, Left}

-- an allowed line begins so
abbrev pub Begins : (List (List ℕ) → Type 0) → List (List ℕ) → Type 0
Begins Allowed front = (more : List (List ℕ)) × Allowed (front ++ more)

-- word k, counted from 0, is the first such that no allowed line begins with the words up to and including it; where the line is a proper prefix of an allowed one, k is the number of its words
pub record IsBadAt (Allowed : List (List ℕ) → Type 0) (words : List (List ℕ)) (k : ℕ) : Type 0 where
  pub within : k ≤ length words
  pub before : Begins Allowed (take k words)
  pub here : k < length words → Begins Allowed (take (k + 1) words) → ⊥
  pub whole : Allowed words → ⊥

-- a reader tells the place of a fault by the words that are left there
abbrev pub IsFault : (List (List ℕ) → Type 0) → List (List ℕ) → ReadFault → Type 0
IsFault Allowed words Memory = Unit {0}
IsFault Allowed words (Left n) = (k : ℕ) × (k + n ≡ length words) × IsBadAt Allowed words k
