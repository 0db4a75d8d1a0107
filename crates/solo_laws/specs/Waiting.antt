-- What one caller has submitted, where part of it waits to be settled.
use Rattle.std.specs.Prelude.{◌≡◌, ◌≤◌, ◌<◌, ◌+◌, ◌^◌, ℕ, List, [], ◌∷◌, ◌++◌, length}
use Rattle.std.specs.List.{AllByRecursion}
use Rattle.switch_model.specs.declared.act.Submission.{Submission}
use Rattle.switch_model.specs.declared.reply.Reply.{Reply}
use Rattle.switch_model.specs.Journal.{Journal, strip, with_round}
use Rattle.switch_model.specs.MayComeOf.{MayComeOf}
use Rattle.switch_model.specs.Round.{next_round, run}
use Rattle.told_laws.specs.Course.{Course, Ticket}

-- all that was submitted: what the journal has settled, and behind it what waits
abbrev pub sent_of : Journal → List Submission → List Submission
sent_of j waiting = strip j ++ waiting

-- what waits for the journal is the caller's: the journal may come of all that was submitted, which is within the limit; and versions up to the limit
-- are numbers of 64 bits
pub record IsWaiting (limit : ℕ) (j : Journal) (waiting : List Submission) : Type 0 where
  pub may_come : MayComeOf (sent_of j waiting) j
  pub few : length (sent_of j waiting) ≤ limit
  pub callers : AllByRecursion (λ s. s.caller ≡ 0) (sent_of j waiting)
  pub room : j.opening.version + limit < 2 ^ 64

-- how many entries a round of what waits has, and the journal with it; with nothing to settle no round is run
abbrev pub pumped : List Submission → Journal → ℕ × Journal
pumped [] j = (0, j)
pumped (s ∷ ss) j = let r = next_round j (run (s ∷ ss)) in (length r.entries, with_round j r)

-- the caller's course
abbrev pub course_of : Journal → List Submission → List Ticket → List (ℕ × Reply) → Course
course_of j waiting tickets replies = record { sent = sent_of j waiting; journal = j; tickets = tickets; replies = replies }

-- the tickets are of what was submitted
abbrev pub AreOf : List Submission → List Ticket → Type 0
AreOf sent tickets = AllByRecursion (λ t. t.position < length sent) tickets
