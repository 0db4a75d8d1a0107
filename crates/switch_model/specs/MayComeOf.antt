-- Which journals may come of what callers submit and rounds settle.
use Rattle.std.specs.Prelude.{ℕ, ◌≡◌, ◌≤◌, List, [], ◌∷◌, length, take}
use Rattle.keyed.specs.Prefix.{IsPrefix}
use Rattle.switch_model.specs.declared.act.Submission.{Submission}
use Rattle.switch_model.specs.declared.journal.Round.{Round}
use Rattle.switch_model.specs.Journal.{Journal, strip, with_round, pending}
use Rattle.switch_model.specs.Round.{run, next_round}
use Rattle.switch_model.specs.Legal.{IsLegal}

-- the round settles a run of the first 1 to 64 pending submissions
abbrev pub SettlesNext : List Submission → Journal → Round → Type 0
SettlesNext sent j round = (n : ℕ) × (1 ≤ n) × (n ≤ 64) × (n ≤ length (pending sent j)) × (round ≡ next_round j (run (take n (pending sent j))))

-- each round is one of those, after the rounds before it
abbrev pub AllSettleNext : List Submission → Journal → List Round → Type 0
AllSettleNext sent j [] = Unit {0}
AllSettleNext sent j (round ∷ rounds) = SettlesNext sent j round × AllSettleNext sent (with_round j round) rounds

-- a journal that these submissions may have led to: it is legal, and each of its rounds settled a run of what was pending
pub record MayComeOf (sent : List Submission) (j : Journal) : Type 0 where
  pub legal : IsLegal j
  pub settled : IsPrefix (strip j) sent
  pub rounds : AllSettleNext sent (record j { rounds = [] }) j.rounds
