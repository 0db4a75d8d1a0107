-- What the round is that settles a run.
use Rattle.std.specs.Prelude.{◌≡◌, ◌≤◌, ◌⊎◌, ℕ, false, List, [], ◌∷◌, length, map, take}
use Rattle.std.specs.List.{AllByRecursion}
use Rattle.net_types.specs.declared.table.Caps.{Caps}
use Rattle.net_types.specs.Capacity.{Fits}
use Rattle.switch_model.specs.declared.act.Submission.{Submission}
use Rattle.switch_model.specs.declared.journal.Entry.{Entry}
use Rattle.switch_model.specs.declared.journal.Round.{Round}
use Rattle.switch_model.specs.declared.journal.RoundKind.{RoundKind}
use Rattle.switch_model.specs.declared.journal.RoundKind.TheVariants.{Whole, One}
use Rattle.switch_model.specs.declared.verdict.Verdict.{Verdict}
use Rattle.switch_model.specs.declared.verdict.Verdict.TheVariants.{Accepted, Invalid, Full}
use Rattle.switch_model.specs.Journal.{Journal, after_verdict, after_entries, version_after, submission_of, with_round}
use Rattle.switch_model.specs.Legal.{IsRightAs}
use Rattle.switch_model.specs.PlainState.{PlainState}
use Rattle.switch_model.specs.Reason.{reason}
use Rattle.switch_model.specs.Round.{verdict_in_run, is_accepted, next_round, next_version}
use Rattle.switch_model.specs.Rows.{rows}

-- the state after a run, each update of which takes effect where no reason holds against it
abbrev pub after_run : PlainState → List Submission → PlainState
after_run m [] = m
after_run m (s ∷ ss) = after_run (after_verdict m s.update (verdict_in_run (reason m s.update))) ss

-- the kind of the round of one submission by itself
abbrev pub kind_alone : Verdict → RoundKind
kind_alone Accepted = Whole
kind_alone (Invalid r) = Whole
kind_alone (Full t) = One

-- the journal after runs that were settled in turn
abbrev pub after_runs : Journal → List (List Submission) → Journal
after_runs j [] = j
after_runs j (q ∷ qs) = after_runs (with_round j (next_round j q)) qs

-- no entry is accepted
abbrev pub AcceptsNone : List Entry → Type 0
AcceptsNone es = AllByRecursion (λ e. is_accepted e.verdict ≡ false) es

-- a whole round has the whole run, and a round of one has its first
abbrev pub HasWholeOrFirst : List Submission → Round → Type 0
HasWholeOrFirst q r = ((r.kind ≡ Whole) × (map submission_of r.entries ≡ q)) ⊎ ((r.kind ≡ One) × (map submission_of r.entries ≡ take 1 q))

-- a round of the run q after that state and version: it is right, and its rows fit; it has the run or its first; what it makes of the version
-- goes by its verdicts
pub record Settles (m : PlainState) (v : ℕ) (caps : Caps) (q : List Submission) (r : Round) : Type 0 where
  pub right : IsRightAs r.kind caps m v r.entries
  pub fits : Fits (rows (after_entries m r.entries)) caps
  pub has : HasWholeOrFirst q r
  pub some : 1 ≤ length r.entries
  pub at_most : length r.entries ≤ length q
  pub version : version_after v r.entries ≡ next_version v (map (λ e. e.verdict) r.entries)
