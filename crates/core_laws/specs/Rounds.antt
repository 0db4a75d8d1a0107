-- What a round makes of a core.
use Rattle.std.specs.Prelude.{◌≡◌, ◌≢◌, ◌≤◌, ◌+◌, ◌*◌, Option, None, IfSome, List, [], ◌∷◌, ◌++◌}
use Rattle.chip_core.specs.declared.changes.RowChanges.{RowChanges}
use Rattle.journal_laws.specs.Settling.{after_run}
use Rattle.net_types.specs.Capacity.{over, Fits}
use Rattle.net_types.specs.declared.table.Table.{Table}
use Rattle.switch_model.specs.declared.act.Submission.{Submission}
use Rattle.switch_model.specs.declared.journal.Round.{Round}
use Rattle.switch_model.specs.declared.journal.RoundKind.{RoundKind}
use Rattle.switch_model.specs.declared.journal.RoundKind.TheVariants.{One}
use Rattle.switch_model.specs.declared.verdict.Verdict.{Verdict}
use Rattle.switch_model.specs.declared.verdict.Verdict.TheVariants.{Full}
use Rattle.switch_model.specs.Journal.{after_entries, version_after, with_round}
use Rattle.switch_model.specs.Round.{next_round, one_round, round_of, whole_round, with_verdicts}
use Rattle.switch_model.specs.Rows.{rows}
use Rattle.switch_state.specs.Follows.{Follows}
use Rattle.switch_state.specs.Plain.{plain}
use Rattle.core_laws.specs.Audience.{WereTold}
use Rattle.core_laws.specs.Changes.{AreChanges}
use Rattle.core_laws.specs.Published.{CoreView, PublishedView, journal_of}
use Rattle.core_laws.specs.Writes.{differing_after, most_writes}

-- what is published after one more round: the state follows the one before, and is that one where the version didn't rise
pub record HasRound (r : Round) (old new : PublishedView) : Type 0 where
  pub base : new.base ≡ old.base
  pub caps : new.caps ≡ old.caps
  pub rounds : new.rounds ≡ old.rounds ++ r ∷ []
  pub plain : plain new.state ≡ after_entries (plain old.state) r.entries
  pub version : new.state.version ≡ version_after old.state.version r.entries
  pub follows : Follows old.state new.state
  pub same : new.state.version ≡ old.state.version → new.state ≡ old.state

-- the round of a run in which no capacity counts
abbrev pub tried_round : RoundKind → PublishedView → List Submission → Round
tried_round kind old q = round_of kind old.state.version (with_verdicts (plain old.state) q)

-- the state is a later one, and the changes lead from the rows of the old one to its own
pub record IsChange (old new : PublishedView) (changes : RowChanges) : Type 0 where
  pub rows : AreChanges (rows (plain old.state)) (rows (plain new.state)) changes
  pub later : new.state.version ≡ old.state.version + 1

-- what a run would make of what is published, a share of it, and the rows that would change: none are listed where nothing was accepted
pub record IsAttempt (r : Round) (old next share : PublishedView) (changes : Option RowChanges) : Type 0 where
  pub round : HasRound r old next
  pub shared : share ≡ next
  pub kept : changes ≡ None → next.state ≡ old.state
  pub listed : IfSome changes (IsChange old next)

-- the first of a run refused for that table
abbrev pub refused_first : Table → List Submission → List (Submission × Verdict)
refused_first t [] = []
refused_first t (s ∷ ss) = (s, Full t) ∷ []

-- what is published where the first of a run is refused for that table, and a share of it
pub record IsRefusal (t : Table) (q : List Submission) (old next share : PublishedView) : Type 0 where
  pub round : HasRound (round_of One old.state.version (refused_first t q)) old next
  pub shared : share ≡ next
  pub kept : next.state ≡ old.state

-- observers are told of a state with a new version, and of no other
pub record HaveHeard (old new : CoreView) : Type 0 where
  pub told : new.published.state.version ≢ old.published.state.version → WereTold new.published.state old.audience new.audience
  pub stayed : new.published.state.version ≡ old.published.state.version → new.audience ≡ old.audience

-- a core after the whole run was settled
pub record IsWhole (q : List Submission) (old new : CoreView) : Type 0 where
  pub fits : Fits (rows (after_run (plain old.published.state) q)) old.caps
  pub published : HasRound (whole_round (plain old.published.state) old.published.state.version q) old.published new.published
  pub caps : new.caps ≡ old.caps
  pub writes : new.writes ≤ old.writes + 2 * differing_after (plain old.published.state) q
  pub same : new.published.state.version ≡ old.published.state.version → new.raw ≡ old.raw
  pub heard : HaveHeard old new

-- a core after the whole run was tried, and undone
pub record IsTooMuch (q : List Submission) (old new : CoreView) : Type 0 where
  pub over : over (rows (after_run (plain old.published.state) q)) old.caps ≢ None
  pub raw : new.raw ≡ old.raw
  pub published : new.published ≡ old.published
  pub audience : new.audience ≡ old.audience
  pub caps : new.caps ≡ old.caps
  pub writes : new.writes ≤ old.writes + 4 * differing_after (plain old.published.state) q

-- a core after the first of a run was settled by itself
pub record IsOne (q : List Submission) (old new : CoreView) : Type 0 where
  pub published : HasRound (one_round (plain old.published.state) old.published.state.version old.caps q) old.published new.published
  pub caps : new.caps ≡ old.caps
  pub writes : new.writes ≤ old.writes + 4 * differing_after (plain old.published.state) q
  pub same : new.published.state.version ≡ old.published.state.version → new.raw ≡ old.raw
  pub heard : HaveHeard old new

-- a core after a round of the run: its journal has the round that settles the run, from the same opening; its state follows the one before; where
-- the version stayed, so did the state, the chip and the observers; else the observers were told
pub record IsSettled (q : List Submission) (old new : CoreView) : Type 0 where
  pub journal : journal_of new.published ≡ with_round (journal_of old.published) (next_round (journal_of old.published) q)
  pub base : new.published.base ≡ old.published.base
  pub follows : Follows old.published.state new.published.state
  pub raw : new.published.state.version ≡ old.published.state.version → new.raw ≡ old.raw
  pub state : new.published.state.version ≡ old.published.state.version → new.published.state ≡ old.published.state
  pub caps : new.caps ≡ old.caps
  pub writes : new.writes ≤ old.writes + most_writes (plain old.published.state) old.caps q
  pub heard : HaveHeard old new

-- rounds of these runs in turn lead from the first core to the second
abbrev pub AreSettled : List (List Submission) → CoreView → CoreView → Type 0
AreSettled [] old new = new ≡ old
AreSettled (q ∷ qs) old new = (mid : CoreView) × IsSettled q old mid × AreSettled qs mid new
