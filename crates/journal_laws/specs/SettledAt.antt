-- Rounds until a submission is settled.
use Rattle.std.specs.Prelude.{ℕ, zero, suc, ◌<◌, nat_lt, List, if◌then◌else◌}
use Rattle.switch_model.specs.declared.act.Submission.{Submission}
use Rattle.switch_model.specs.Journal.{Journal, IsJournalPrefix, len, pending, with_round}
use Rattle.switch_model.specs.MayComeOf.{MayComeOf}
use Rattle.switch_model.specs.Round.{next_round, run}

-- the journal with the round that settles what is pending
abbrev pub with_next : List Submission → Journal → Journal
with_next sent j = with_round j (next_round j (run (pending sent j)))

-- at most so many rounds, until the submission at that position is settled
abbrev pub settled_at : ℕ → List Submission → ℕ → Journal → Journal
settled_at zero sent position j = j
settled_at (suc n) sent position j = if nat_lt position (len j) then j else settled_at n sent position (with_next sent j)

-- the second journal may have come of the same submissions, begins with the first, and has settled the one at that position
pub record IsSettledAfter (sent : List Submission) (position : ℕ) (j k : Journal) : Type 0 where
  pub may_come : MayComeOf sent k
  pub begins : IsJournalPrefix j k
  pub settled : position < len k
