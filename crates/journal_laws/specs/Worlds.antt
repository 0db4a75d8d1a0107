-- What callers may do, in any order, and what they are told.
use Rattle.std.specs.Prelude.{◌≡◌, ℕ, ◌≤◌, ◌<◌, ◌+◌, ◌==◌, Option, None, Some, List, [], ◌∷◌, ◌++◌, length, filter, map, take, if◌then◌else◌}
use Rattle.std.specs.List.{AllByRecursion}
use Rattle.net_types.specs.Rows.{Rows}
use Rattle.switch_model.specs.declared.act.Submission.{Submission}
use Rattle.switch_model.specs.declared.act.Update.{Update}
use Rattle.keyed.specs.Prefix.{IsPrefix}
use Rattle.switch_model.specs.Journal.{Opening, Journal, IsJournalPrefix, IsRoundEnd, fold, len, pending, submission, upto, version_of, with_round}
use Rattle.switch_model.specs.PlainState.{PlainState}
use Rattle.switch_model.specs.MayComeOf.{MayComeOf}
use Rattle.switch_model.specs.Round.{next_round, run}
use Rattle.switch_model.specs.Rows.{rows}

-- what a caller does: it submits an update; it settles the run of so many of the submissions that are pending; it reads the state, or the state
-- and the chip's tables
pub data Step : Type 0 where
  submit : ℕ → Update → Step
  settle : ℕ → ℕ → Step
  read : ℕ → Step
  read_tables : ℕ → Step

-- what a caller has seen: submissions, and a journal
pub record Seen : Type 0 where
  pub sent : List Submission
  pub journal : Journal

-- what a caller was told: a state with its version, on how many entries of the journal it rests, and the rows where it asked for them
pub record Answer : Type 0 where
  pub caller : ℕ
  pub front : ℕ
  pub state : PlainState
  pub version : ℕ
  pub tables : Option Rows

-- all that was submitted, the journal, what each caller has seen, and what callers were told, in order
pub record World : Type 0 where
  pub sent : List Submission
  pub journal : Journal
  pub seen : ℕ → Seen
  pub answers : List Answer

-- nothing has happened yet
abbrev pub new_world : Opening → World
new_world opening = record { sent = []; journal = record { opening = opening; rounds = [] }; seen = λ i. record { sent = []; journal = record { opening = opening; rounds = [] } }; answers = [] }

-- the caller sees all there is
abbrev pub look : ℕ → World → World
look i w = record { sent = w.sent; journal = w.journal; seen = λ k. if k == i then (record { sent = w.sent; journal = w.journal }) else w.seen k; answers = w.answers }

-- one submission more
abbrev pub with_submission : Submission → World → World
with_submission s w = record { sent = w.sent ++ s ∷ []; journal = w.journal; seen = w.seen; answers = w.answers }

-- one round more, of the run of so many pending submissions
abbrev pub with_settled : ℕ → World → World
with_settled m w = record { sent = w.sent; journal = with_round w.journal (next_round w.journal (run (take m (pending w.sent w.journal)))); seen = w.seen; answers = w.answers }

-- one answer more, of the state that the journal gives
abbrev pub with_answer : ℕ → Option Rows → World → World
with_answer i tables w = record { sent = w.sent; journal = w.journal; seen = w.seen; answers = w.answers ++ (record { caller = i; front = len w.journal; state = fold w.journal; version = version_of w.journal; tables = tables }) ∷ [] }

-- the world after a step
abbrev pub next : World → Step → World
next w (submit i update) = look i (with_submission (submission w.sent i update) w)
next w (settle i m) = look i (with_settled m w)
next w (read i) = with_answer i None (look i w)
next w (read_tables i) = with_answer i (Some (rows (fold w.journal))) (look i w)

-- there is that caller, room below the limit for a submission, and so many that are pending
abbrev pub Allows : ℕ → ℕ → World → Step → Type 0
Allows limit callers w (submit i update) = (i < callers) × (length w.sent < limit)
Allows limit callers w (settle i m) = (i < callers) × (1 ≤ m) × (m ≤ length (pending w.sent w.journal))
Allows limit callers w (read i) = i < callers
Allows limit callers w (read_tables i) = i < callers

-- the world after these steps
abbrev pub after : World → List Step → World
after w [] = w
after w (step ∷ steps) = after (next w step) steps

-- each step is allowed after those before it
abbrev pub AreAllowed : ℕ → ℕ → World → List Step → Type 0
AreAllowed limit callers w [] = Unit {0}
AreAllowed limit callers w (step ∷ steps) = Allows limit callers w step × AreAllowed limit callers (next w step) steps

-- the updates that a caller submits
abbrev pub updates_by : ℕ → List Step → List Update
updates_by i [] = []
updates_by i (submit k update ∷ steps) = if k == i then update ∷ updates_by i steps else updates_by i steps
updates_by i (settle k m ∷ steps) = updates_by i steps
updates_by i (read k ∷ steps) = updates_by i steps
updates_by i (read_tables k ∷ steps) = updates_by i steps

-- the callers that ask, in order
abbrev pub readers : List Step → List ℕ
readers [] = []
readers (submit k update ∷ steps) = readers steps
readers (settle k m ∷ steps) = readers steps
readers (read k ∷ steps) = k ∷ readers steps
readers (read_tables k ∷ steps) = k ∷ readers steps

-- a caller's updates with their numbers, from n on
abbrev pub numbered : ℕ → ℕ → List Update → List Submission
numbered caller n [] = []
numbered caller n (update ∷ updates) = record { caller = caller; seq = n; update = update } ∷ numbered caller (n + 1) updates

-- the answer is what the journal was at the end of a round
pub record IsTrueOf (j : Journal) (a : Answer) : Type 0 where
  pub end : IsRoundEnd j a.front
  pub state : a.state ≡ fold (upto j a.front)
  pub version : a.version ≡ version_of (upto j a.front)
  pub tables : (rs : Rows) → a.tables ≡ Some rs → rs ≡ rows (fold (upto j a.front))

-- on how many entries the answers of a caller rest
abbrev pub fronts : ℕ → List Answer → List ℕ
fronts i answers = map (λ a. a.front) (filter (λ a. a.caller == i) answers)

-- none is above a later one
abbrev pub NeverFall : List ℕ → Type 0
NeverFall [] = Unit {0}
NeverFall (n ∷ ns) = AllByRecursion (λ k. n ≤ k) ns × NeverFall ns

-- what holds of every world that began so
pub record IsWorld (o : Opening) (limit : ℕ) (w : World) : Type 0 where
  pub opening : w.journal.opening ≡ o
  pub may_come : MayComeOf w.sent w.journal
  pub few : length w.sent ≤ limit
  pub answers : AllByRecursion (IsTrueOf w.journal) w.answers
  pub fronts_rise : (i : ℕ) → NeverFall (fronts i w.answers)
  pub sent_seen : (i : ℕ) → IsPrefix (w.seen i).sent w.sent
  pub journal_seen : (i : ℕ) → IsJournalPrefix (w.seen i).journal w.journal
  pub fronts_seen : (i : ℕ) → AllByRecursion (λ n. n ≤ len (w.seen i).journal) (fronts i w.answers)

-- some steps lead to these submissions and this journal
abbrev pub IsWorldOf : ℕ → ℕ → List Submission → Journal → Type 0
IsWorldOf limit callers sent j = (steps : List Step) × AreAllowed limit callers (new_world j.opening) steps × ((after (new_world j.opening) steps).sent ≡ sent) × ((after (new_world j.opening) steps).journal ≡ j)
