-- A legal journal: each round is right after the state that the rounds before it give.
use Rattle.std.specs.Prelude.{ℕ, ◌≡◌, ◌≢◌, List, [], ◌∷◌, map}
use Rattle.std.specs.List.{AllByRecursion}
use Rattle.net_types.specs.declared.table.Caps.{Caps}
use Rattle.switch_model.specs.declared.act.Submission.{Submission}
use Rattle.switch_model.specs.declared.journal.Entry.{Entry}
use Rattle.switch_model.specs.declared.journal.Round.{Round}
use Rattle.switch_model.specs.declared.journal.RoundKind.{RoundKind}
use Rattle.switch_model.specs.declared.journal.RoundKind.TheVariants.{Whole, One}
use Rattle.switch_model.specs.PlainState.{PlainState}
use Rattle.switch_model.specs.Reason.{reason}
use Rattle.switch_model.specs.Effect.{effect}
use Rattle.switch_model.specs.Rows.{rows}
use Rattle.net_types.specs.Capacity.{over, Fits}
use Rattle.switch_model.specs.Journal.{Journal, after_verdict, after_entries, version_after, submission_of}
use Rattle.switch_model.specs.Round.{run, verdict_in_run, verdict_alone, next_version}

-- submissions that may be settled together: they aren't none, and are their own run
abbrev pub IsRun : List Submission → Type 0
IsRun q = (q ≢ []) × (run q ≡ q)

-- each entry is invalid exactly where a reason holds after the accepted entries before it, else accepted
abbrev pub AreRightInRun : PlainState → List Entry → Type 0
AreRightInRun m [] = Unit {0}
AreRightInRun m (e ∷ es) = (e.verdict ≡ verdict_in_run (reason m e.update)) × AreRightInRun (after_verdict m e.update e.verdict) es

-- the entry is invalid exactly where a reason holds; else full exactly where its result is over a capacity; else accepted
abbrev pub IsRightAlone : PlainState → Caps → Entry → Type 0
IsRightAlone m caps e = e.verdict ≡ verdict_alone (reason m e.update) (over (rows (effect m e.update.act)) caps)

-- each entry has the version after the round
abbrev pub HaveVersion : ℕ → List Entry → Type 0
HaveVersion v es = AllByRecursion (λ e. e.version ≡ next_version v (map (λ x. x.verdict) es)) es

-- a round of that kind is right after that state and version
abbrev pub IsRightAs : RoundKind → Caps → PlainState → ℕ → List Entry → Type 0
IsRightAs Whole caps m v es = IsRun (map submission_of es) × AreRightInRun m es × Fits (rows (after_entries m es)) caps × HaveVersion v es
IsRightAs One caps m v es = (e : Entry) × (es ≡ e ∷ []) × IsRightAlone m caps e × HaveVersion v es

-- each round is right after those before it
abbrev pub AreRight : Caps → PlainState → ℕ → List Round → Type 0
AreRight caps m v [] = Unit {0}
AreRight caps m v (r ∷ rs) = IsRightAs r.kind caps m v r.entries × AreRight caps (after_entries m r.entries) (version_after v r.entries) rs

-- the opening fits, and each round is right
abbrev pub IsLegal : Journal → Type 0
IsLegal j = Fits (rows j.opening.state) j.opening.caps × AreRight j.opening.caps j.opening.state j.opening.version j.rounds
