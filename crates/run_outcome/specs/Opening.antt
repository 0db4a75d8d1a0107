-- Which scripts are run, and what their runs begin with.
use Rattle.std.specs.Prelude.{◌≡◌, ℕ, Ok, List}
use Rattle.net_types.specs.Capacity.{Fits}
use Rattle.script_text.specs.declared.script.Script.{Script}
use Rattle.script_text.specs.declared.script.Start.{Start}
use Rattle.script_text.specs.declared.script.Start.TheVariants.{Cold, Warm}
use Rattle.script_text.specs.Script.{IsScript}
use Rattle.switch_model.specs.Built.{laid}
use Rattle.switch_model.specs.Journal.{Opening}
use Rattle.switch_model.specs.PlainState.{empty}
use Rattle.switch_model.specs.Rows.{rows}

abbrev pub IsCold : Start → Type 0
IsCold (Cold caps) = Unit {0}
IsCold (Warm name) = ⊥

-- a script is run where it starts cold and has one caller
pub record IsBuilt (script : Script) : Type 0 where
  pub cold : IsCold script.start
  pub alone : script.callers ≡ 1

-- a run begins with the state that the base leads to from the empty one, at version 0, on a chip of the script's capacities
pub record IsOpening (script : Script) (opening : Opening) : Type 0 where
  pub caps : script.start ≡ Cold opening.caps
  pub state : laid empty script.base ≡ Ok opening.state
  pub version : opening.version ≡ 0

-- the bytes are a script that is run, and its run begins so
pub record Begins (bytes : List ℕ) (script : Script) (opening : Opening) : Type 0 where
  pub is_script : IsScript bytes script
  pub built : IsBuilt script
  pub opens : IsOpening script opening

-- the bytes are a script that is run, and the rows of its opening state fit
abbrev pub IsRunnable : List ℕ → Type 0
IsRunnable bytes = (script : Script) × (opening : Opening) × Begins bytes script opening × Fits (rows opening.state) opening.caps
