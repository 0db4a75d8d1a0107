-- What the journal of an agent rests on, and what its two values stand for.
use Rattle.std.specs.Prelude.{◌≤◌, ◌<◌, ◌+◌, ◌^◌, ℕ, Bool, List, [], ◌∷◌, ◌++◌, length, map}
use Rattle.switch_model.specs.declared.act.Submission.{Submission}
use Rattle.switch_model.specs.declared.journal.Round.{Round}
use Rattle.switch_model.specs.Journal.{Journal, Opening, submission_of}
use Rattle.switch_model.specs.MayComeOf.{MayComeOf}

-- the journal's opening, how many submissions there may be, and which of the observers are sure, in their order
pub record GroundView : Type 0 where
  pub opening : Opening
  pub limit : ℕ
  pub sure : List Bool

-- the journal of these rounds
abbrev pub journal_at : GroundView → List Round → Journal
journal_at g rounds = record { opening = g.opening; rounds = rounds }

-- the submissions that a round settles, in order
abbrev pub submissions_of : Round → List Submission
submissions_of r = map submission_of r.entries

-- these are submissions within the limit, and rounds that may come of them
pub record IsSoFar (g : GroundView) (sent : List Submission) (rounds : List Round) : Type 0 where
  pub may_come : MayComeOf sent (journal_at g rounds)
  pub few : length sent ≤ g.limit

-- what the desk stands for: all submissions, and the rounds
pub record DeskView : Type 0 where
  pub basis : GroundView
  pub sent : List Submission
  pub rounds : List Round

-- what the chip side stands for: the rounds; the run that it was given last stands beside them
pub record SideView : Type 0 where
  pub basis : GroundView
  pub run : List Submission
  pub rounds : List Round

-- every version that the journal may come to is a number of 64 bits
abbrev pub HasRoom : GroundView → Type 0
HasRoom g = g.opening.version + g.limit < 2 ^ 64

-- what is so of a desk
pub record IsDesk (d : DeskView) : Type 0 where
  pub so_far : IsSoFar d.basis d.sent d.rounds
  pub room : HasRoom d.basis

-- the desk with one submission more
abbrev pub with_sent : DeskView → Submission → DeskView
with_sent d s = record d { sent = d.sent ++ s ∷ [] }

-- the desk with one round more
abbrev pub with_settled : DeskView → Round → DeskView
with_settled d r = record d { rounds = d.rounds ++ r ∷ [] }
