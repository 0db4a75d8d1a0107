-- The longest run of zero groups, by what it is.
use Rattle.std.specs.Prelude.{◌≡◌, ◌≤◌, ◌<◌, ℕ, List, drop}
use Rattle.ip_text.specs.Printed.{zeros_before}

-- how many zero groups stand from there on
abbrev pub zeros_at : List ℕ → ℕ → ℕ
zeros_at groups i = zeros_before (drop i groups)

-- no run is longer, and none that begins before it is as long
pub record IsRun (groups : List ℕ) (start count : ℕ) : Type 0 where
  pub here : zeros_at groups start ≡ count
  pub most : (i : ℕ) → zeros_at groups i ≤ count
  pub first : (i : ℕ) → i < start → zeros_at groups i < count
