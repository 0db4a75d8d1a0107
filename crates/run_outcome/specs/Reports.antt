-- What the report of a run says.
use Rattle.std.specs.Prelude.{◌≡◌, ℕ, Bool, true, false, List}
use Rattle.std.specs.List.{AllZip}
use Rattle.chip_core.specs.Chip.{IsChip, view_of}
use Rattle.net_types.specs.declared.table.Tables.{Tables}
use Rattle.report_text.specs.Report.{report}
use Rattle.run_outcome.specs.Opening.{Begins}
use Rattle.script_text.specs.declared.script.Script.{Script}
use Rattle.switch_model.specs.declared.record.Totals.{Totals}
use Rattle.switch_model.specs.declared.reply.Reply.{Reply}
use Rattle.switch_model.specs.Journal.{Journal, Opening, IsRoundEnd, fold, len, strip, upto, version_of}
use Rattle.switch_model.specs.MayComeOf.{MayComeOf}
use Rattle.switch_model.specs.Rows.{rows}
use Rattle.switch_model.specs.Totals.{totals}
use Rattle.told_laws.specs.Course.{solo}
use Rattle.told_laws.specs.Told.{Told, by_line}

-- the run of one caller's script: its lines one by one, and the replies by their lines
pub record IsSoloRun (script : Script) (opening : Opening) (j : Journal) (replies : List (ℕ × Reply)) : Type 0 where
  pub journal : j ≡ (solo script opening).journal
  pub ordered : replies ≡ by_line (solo script opening).replies

-- an observer stands at the version and the counts of what was published at the end of some round, or at the opening; one that is sure, at the last
pub record IsStandingOf (j : Journal) (sure : Bool) (standing : ℕ × Totals) : Type 0 where
  pub front : ℕ
  pub end : IsRoundEnd j front
  pub version : standing.0 ≡ version_of (upto j front)
  pub counts : standing.1 ≡ totals (fold (upto j front))
  pub latest : sure ≡ true → front ≡ len j

-- the text is the report of a run of the script after that opening, with an observer for each of these marks, which say whether it is sure
pub record Reports (script : Script) (opening : Opening) (sures : List Bool) (text : List ℕ) : Type 0 where
  pub journal : Journal
  pub replies : List (ℕ × Reply)
  pub tables : Tables
  pub standings : List (ℕ × Totals)
  -- the journal has that opening, may come of what was submitted, and all of that is settled in it
  pub opens : journal.opening ≡ opening
  pub reached : MayComeOf (strip journal) journal
  -- each line was told what is true of the journal; and of one caller there is one journal, with one list of replies
  pub told : Told script journal replies
  pub alone : script.callers ≡ 1 → IsSoloRun script opening journal replies
  -- the tables are a chip's of the opening's capacities, and show the rows of the last state
  pub chip : IsChip opening.caps tables
  pub in_step : view_of tables ≡ rows (fold journal)
  pub stand : AllZip (IsStandingOf journal) sures standings
  pub text_is : text ≡ report false journal replies (view_of tables) standings

-- the text is the report of the run of the script that the bytes are
pub record IsReportOf (sures : List Bool) (bytes text : List ℕ) : Type 0 where
  pub script : Script
  pub opening : Opening
  pub begins : Begins bytes script opening
  pub reports : Reports script opening sures text
