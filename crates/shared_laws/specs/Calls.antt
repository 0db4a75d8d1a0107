-- What the calls of an agent do to a caller's pass.
use Rattle.std.specs.Prelude.{◌≡◌, ◌⊎◌, ℕ, ◌<◌, ◌≤◌, zero, suc, Bool, true, false, List, [], ◌∷◌, ◌++◌, length, Some, slice_get}
use Rattle.std.specs.List.{AllByRecursion}
use Rattle.keyed.specs.Prefix.{IsPrefix}
use Rattle.switch_model.specs.declared.act.Submission.{Submission}
use Rattle.switch_model.specs.declared.act.Update.{Update}
use Rattle.switch_model.specs.declared.journal.Entry.{Entry}
use Rattle.switch_model.specs.declared.journal.Round.{Round}
use Rattle.switch_model.specs.declared.verdict.Verdict.{Verdict}
use Rattle.switch_model.specs.Journal.{Journal, entries, len, strip, submission_of}
use Rattle.switch_model.specs.Round.{next_round, run}
use Rattle.shared_laws.specs.Callers.{Seen, next_of}
use Rattle.shared_laws.specs.Ground.{GroundView, journal_at}

-- the update was submitted at that position
pub record Submitted (old new : Seen) (update : Update) (position : ℕ) : Type 0 where
  pub before : List Submission
  pub seen_before : IsPrefix old.seen before
  pub position_is : position ≡ length before
  pub sent : new.seen ≡ before ++ next_of old update ∷ []
  pub mine : new.mine ≡ old.mine ++ next_of old update ∷ []
  pub rounds : new.rounds ≡ old.rounds

-- the round settles the run of what was pending after the rounds before it, at a moment at which all submissions began with `least`, and began `most`
pub record IsNext (g : GroundView) (least most : List Submission) (before : List Round) (round : Round) : Type 0 where
  pub pending : List Submission
  pub from : IsPrefix least (strip (journal_at g before) ++ pending)
  pub upto : IsPrefix (strip (journal_at g before) ++ pending) most
  pub some : 1 ≤ length round.entries
  pub right : round ≡ next_round (journal_at g before) (run pending)

-- the loaded run is that of all that is pending
pub record IsLoaded (sent : List Submission) (j : Journal) (loaded : List Submission) : Type 0 where
  pub pending : List Submission
  pub all : sent ≡ strip j ++ pending
  pub run_is : loaded ≡ run pending

-- whether the run of what is pending was loaded; it wasn't where nothing is pending, or where the journal has more than that many entries
abbrev pub IsTaken : List Submission → Journal → ℕ → List Submission → Bool → Type 0
IsTaken sent j most taken true = IsLoaded sent j taken × (1 ≤ length taken) × (len j ≤ most)
IsTaken sent j most taken false = (sent ≡ strip j) ⊎ (most < len j)

-- one round was counted, of k entries
pub record Counted (g : GroundView) (old new : Seen) (k : ℕ) : Type 0 where
  pub before : List Round
  pub round : Round
  pub seen_before : IsPrefix old.jseen before
  pub journal : new.jseen ≡ before ++ round ∷ []
  pub rounds : new.rounds ≡ old.rounds ++ length before ∷ []
  pub size : length round.entries ≡ k
  pub next : IsNext g old.seen new.seen before round

-- no round was counted, since nothing was pending
pub record NonePending (g : GroundView) (old new : Seen) : Type 0 where
  pub rounds : new.rounds ≡ old.rounds
  pub none : new.seen ≡ strip (journal_at g new.jseen)

-- what a pump did, by the number that it settled
abbrev pub Pumped : GroundView → Seen → Seen → ℕ → Type 0
Pumped g old new zero = NonePending g old new
Pumped g old new (suc k) = Counted g old new (suc k)

-- what one try at a round did, where the journal has at most that many entries; else nothing
abbrev pub Tried : GroundView → Seen → Seen → ℕ → ℕ → Type 0
Tried g old new most zero = (new.rounds ≡ old.rounds) × ((new.seen ≡ strip (journal_at g new.jseen)) ⊎ (most < len (journal_at g new.jseen)))
Tried g old new most (suc k) = (c : Counted g old new (suc k)) × (len (journal_at g c.before) ≤ most)

-- the round of that number stands in the journal past the first ones, after at most that many entries, and is the next one of its moment
pub record IsCounted (g : GroundView) (least most : List Submission) (rounds : List Round) (low high n : ℕ) : Type 0 where
  pub before : List Round
  pub round : Round
  pub begins : IsPrefix (before ++ round ∷ []) rounds
  pub number_is : n ≡ length before
  pub past : low ≤ n
  pub few : len (journal_at g before) ≤ high
  pub next : IsNext g least most before round

-- the rounds that were counted, each after at most that many entries
pub record RoundsAdded (g : GroundView) (old new : Seen) (high : ℕ) : Type 0 where
  pub added : List ℕ
  pub rounds : new.rounds ≡ old.rounds ++ added
  pub each : AllByRecursion (IsCounted g old.seen new.seen new.jseen (length old.jseen) high) added

-- the entry at that position is that of the submission there, with this verdict and version, and the front is that of the journal
pub record IsAnswer (sent : List Submission) (j : Journal) (position : ℕ) (verdict : Verdict) (version front : ℕ) : Type 0 where
  pub entry : Entry
  pub there : slice_get (entries j) position ≡ Some entry
  pub of_ticket : slice_get sent position ≡ Some (submission_of entry)
  pub verdict_is : verdict ≡ entry.verdict
  pub version_is : version ≡ entry.version
  pub front_is : front ≡ len j
