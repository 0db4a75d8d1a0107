-- What the summary of generated work says.
use Rattle.std.specs.Prelude.{ℕ, ◌≡◌, Bool, true, false, List, length}
use Rattle.std.specs.List.{filter}
use Rattle.net_types.specs.Rows.{Rows}
use Rattle.report_text.specs.EntryText.{rounds_text}
use Rattle.run_outcome.specs.Opening.{IsOpening}
use Rattle.switch_model.specs.declared.journal.Entry.{Entry}
use Rattle.switch_model.specs.declared.verdict.Verdict.{Verdict}
use Rattle.switch_model.specs.declared.verdict.Verdict.TheVariants.{Accepted, Invalid, Full}
use Rattle.switch_model.specs.Journal.{Journal, Opening, entries, fold, version_of}
use Rattle.switch_model.specs.Rows.{rows}
use Rattle.told_laws.specs.Course.{solo}
use Rattle.work_gen.specs.Generated.{generated}
use Rattle.work_laws.specs.Work.{work}
use Rattle.work_summary.specs.declared.summary.Outcome.{Outcome}
use Rattle.work_summary.specs.declared.summary.RowCounts.{RowCounts}
use Rattle.work_summary.specs.declared.summary.VerdictCounts.{VerdictCounts}
use Rattle.work_summary.specs.Summary.{summary_text}

abbrev pub is_accepted : Verdict → Bool
is_accepted Accepted = true
is_accepted _ = false

abbrev pub is_invalid : Verdict → Bool
is_invalid (Invalid reason) = true
is_invalid _ = false

abbrev pub is_full : Verdict → Bool
is_full (Full table) = true
is_full _ = false

-- how many entries have such a verdict
abbrev pub count_of : (Verdict → Bool) → List Entry → ℕ
count_of has es = length (filter (λ e. has e.verdict) es)

-- how many entries there are, and how many of each verdict
abbrev pub verdict_counts : List Entry → VerdictCounts
verdict_counts es = record { entries = length es; accepted = count_of is_accepted es; invalid = count_of is_invalid es; full = count_of is_full es }

-- how many rows each table has
abbrev pub row_counts : Rows → RowCounts
row_counts r = record { l2 = length r.l2; host = length r.host; group = length r.group; route = length r.route }

-- what a journal comes to, which was led to by so many updates of the seed
abbrev pub outcome_of : ℕ → ℕ → Journal → Outcome
outcome_of seed count j = record {
  seed = seed;
  count = count;
  verdicts = verdict_counts (entries j);
  rounds = length j.rounds;
  version = version_of j;
  rows = row_counts (rows (fold j));
}

-- the journal's lines of rounds and entries, as a report prints them
abbrev pub journal_text : Journal → List ℕ
journal_text j = rounds_text 0 0 j.opening.version j.rounds

-- the text sums up the journal that the seed's work leads to after that opening
abbrev pub Sums : ℕ → ℕ → Opening → List ℕ → Type 0
Sums seed count opening text = let j = (solo (work seed count) opening).journal in text ≡ summary_text (outcome_of seed count j) (journal_text j)

-- the text sums up the seed's work on a switch that begins with what its base leads to
pub record IsWorkSummary (seed count : ℕ) (text : List ℕ) : Type 0 where
  pub opening : Opening
  pub opens : IsOpening (generated seed count) opening
  pub sums : Sums seed count opening text
