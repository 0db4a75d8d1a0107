-- What the two values, the submissions and the rounds of a book mean.
use Rattle.std.specs.Prelude.{ℕ, List}

-- What a value rests on and stands for, who made a submission and how many before it, and what a round settles.
pub record Means (V W G S R : Type 0) : Type 0 where
  pub opening : V → G
  pub sent : V → List S
  pub done : V → List R
  pub caller : S → ℕ
  pub sequence : S → ℕ
  pub subs : R → List S
  pub chip_opening : W → G
  pub chip_done : W → List R

-- The meanings in one record.
abbrev pub means : {V W G S R : Type 0} → (V → G) → (V → List S) → (V → List R) → (S → ℕ) → (S → ℕ) → (R → List S) → (W → G) → (W → List R) → Means V W G S R
means opening sent done caller sequence subs chip_opening chip_done = record {
  opening = opening;
  sent = sent;
  done = done;
  caller = caller;
  sequence = sequence;
  subs = subs;
  chip_opening = chip_opening;
  chip_done = chip_done;
}
