-- Places: the keys that begin with the same bits. The place of width w at a number is the 2 ^ w keys that differ from it in their lowest w bits alone.
use Rattle.std.specs.Prelude.{◌≡◌, ◌≢◌, ℕ, ◌+◌, ◌-◌, ◌*◌, ◌/◌, ◌^◌, ◌<◌, ◌≤◌}

-- the number with its lowest bits cleared, `width` of them
abbrev pub floor : ℕ → ℕ → ℕ
floor width n = n / 2 ^ width * 2 ^ width

-- the key is in the place that begins at `low`: it begins with the place's bits
pub record Covers (low width key : ℕ) : Type 0 where
  pub from : low ≤ key
  pub to : key < low + 2 ^ width

-- the first place has the second one in it
pub record Encloses (from within low width : ℕ) : Type 0 where
  pub from_low : from ≤ low
  pub to_end : low + 2 ^ width ≤ from + 2 ^ within
  pub narrower : width ≤ within

-- the smallest place with the place of `wide` at `at` and the key outside it, in two halves that part them
pub record IsFork (at wide key top low split width : ℕ) : Type 0 where
  pub positive : 0 < width
  pub aligned : floor width low ≡ low
  pub halves : split ≡ low + 2 ^ (width - 1)
  pub covers : Covers low width key
  pub within : Encloses (floor top key) top low width
  pub before : key < at → (key < split) × Encloses split (width - 1) at wide
  pub after : at ≤ key → (split ≤ key) × Encloses low (width - 1) at wide

-- the two numbers have the same bits from `above` on, and not from `below` on
pub record IsBracket (at key below above : ℕ) : Type 0 where
  pub ordered : below < above
  pub differ : floor below key ≢ floor below at
  pub same : floor above key ≡ floor above at
