-- The run of a script.
use Rattle.std.specs.Prelude.{ℕ, Bool, List}
use Rattle.run_outcome.specs.Opening.{IsOpening}
use Rattle.run_outcome.specs.Reports.{Reports}
use Rattle.script_text.specs.declared.script.Script.{Script}
use Rattle.switch_model.specs.Journal.{Opening}
use Rattle.told_laws.specs.Told.{IsSolo}

-- the text is the report of the script's run, where the script is one caller's, after what its base leads to
pub record ReportsScript (script : Script) (sures : List Bool) (text : List ℕ) : Type 0 where
  pub opening : Opening
  pub opens : IsOpening script opening
  pub reports : IsSolo script → Reports script opening sures text
