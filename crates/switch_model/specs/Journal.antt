-- The journal: how each submission was settled, in rounds.
use Rattle.std.specs.Prelude.{ℕ, ◌≡◌, ◌-◌, ◌==◌, nat_le, List, [], ◌∷◌, ◌++◌, length, drop, map, filter, if◌then◌else◌}
use Rattle.keyed.specs.Prefix.{IsPrefix}
use Rattle.net_types.specs.declared.table.Caps.{Caps}
use Rattle.switch_model.specs.declared.act.Submission.{Submission}
use Rattle.switch_model.specs.declared.act.Update.{Update}
use Rattle.switch_model.specs.declared.journal.Entry.{Entry}
use Rattle.switch_model.specs.declared.journal.Round.{Round}
use Rattle.switch_model.specs.declared.verdict.Verdict.{Verdict}
use Rattle.switch_model.specs.declared.verdict.Verdict.TheVariants.{Accepted, Invalid, Full}
use Rattle.switch_model.specs.PlainState.{PlainState}
use Rattle.switch_model.specs.Effect.{effect}

-- what a journal begins with: a state, its version, and the chip's capacities
pub record Opening : Type 0 where
  pub state : PlainState
  pub version : ℕ
  pub caps : Caps

-- the opening, and the rounds since then
pub record Journal : Type 0 where
  pub opening : Opening
  pub rounds : List Round

-- the entries of rounds, one round after another
abbrev pub entries_of : List Round → List Entry
entries_of [] = []
entries_of (round ∷ rounds) = round.entries ++ entries_of rounds

-- the entries of all rounds, in order
abbrev pub entries : Journal → List Entry
entries j = entries_of j.rounds

-- the state after an update with that verdict: only an accepted one changes it
abbrev pub after_verdict : PlainState → Update → Verdict → PlainState
after_verdict m update Accepted = effect m update.act
after_verdict m update (Invalid r) = m
after_verdict m update (Full t) = m

-- the state after these entries in turn
abbrev pub after_entries : PlainState → List Entry → PlainState
after_entries m [] = m
after_entries m (entry ∷ es) = after_entries (after_verdict m entry.update entry.verdict) es

-- the version of the last entry, or the one before
abbrev pub version_after : ℕ → List Entry → ℕ
version_after v [] = v
version_after v (entry ∷ es) = version_after entry.version es

-- the opening state with the accepted updates applied in order
abbrev pub fold : Journal → PlainState
fold j = after_entries j.opening.state (entries j)

-- the version after all entries
abbrev pub version_of : Journal → ℕ
version_of j = version_after j.opening.version (entries j)

-- an entry without its verdict and version
abbrev pub submission_of : Entry → Submission
submission_of entry = record { caller = entry.caller; seq = entry.seq; update = entry.update }

-- what was settled, without how
abbrev pub strip : Journal → List Submission
strip j = map submission_of (entries j)

-- the submissions of one caller
abbrev pub own : ℕ → List Submission → List Submission
own caller = filter (λ s. s.caller == caller)

-- the journal with one more round
abbrev pub with_round : Journal → Round → Journal
with_round j round = record j { rounds = j.rounds ++ round ∷ [] }

-- how many entries a journal has
abbrev pub len : Journal → ℕ
len j = length (entries j)

-- the first rounds, which have n entries together, where n is 0 or the end of a round
abbrev pub rounds_upto : ℕ → List Round → List Round
rounds_upto n [] = []
rounds_upto n (round ∷ rounds) = if nat_le (length round.entries) n then round ∷ rounds_upto (n - length round.entries) rounds else []

-- the journal as it was when it had n entries
abbrev pub upto : Journal → ℕ → Journal
upto j n = record j { rounds = rounds_upto n j.rounds }

-- one journal begins another: they have one opening, and the rounds of the first begin those of the second
abbrev pub IsJournalPrefix : Journal → Journal → Type 0
IsJournalPrefix j k = (j.opening ≡ k.opening) × IsPrefix j.rounds k.rounds

-- n entries are those of some first rounds, of none perhaps: a round ends there
abbrev pub IsRoundEnd : Journal → ℕ → Type 0
IsRoundEnd j n = (rounds : List Round) × IsPrefix rounds j.rounds × (n ≡ length (entries_of rounds))

-- the update as its caller's next submission after those that were sent
abbrev pub submission : List Submission → ℕ → Update → Submission
submission sent caller update = record { caller = caller; seq = length (own caller sent); update = update }

-- the submissions that no round has settled yet
abbrev pub pending : List Submission → Journal → List Submission
pending sent j = drop (len j) sent
