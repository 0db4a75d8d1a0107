-- The base of generated work leads to a state, and the state's rows fit.
use Rattle.std.specs.Prelude.{ℕ, Result, Ok, Err, refl}
use Rattle.net_types.specs.Capacity.{Fits}
use Rattle.switch_model.specs.Built.{laid, placed}
use Rattle.switch_model.specs.declared.verdict.Reason.{Reason}
use Rattle.switch_model.specs.PlainState.{PlainState, empty}
use Rattle.switch_model.specs.Rows.{rows}
use Rattle.work_gen.specs.Base.{base_acts}
use Rattle.work_gen.specs.Generated.{generated_caps}

-- acts lead to a state whose rows fit the chip of generated work
abbrev pub LeadsToFit : Result PlainState (ℕ × Reason) → Type 0
LeadsToFit (Ok m) = Fits (rows m) generated_caps
LeadsToFit (Err e) = ⊥

-- so do those of the base, as can be computed
pub base_fits : LeadsToFit (laid empty (placed 4 base_acts))
base_fits = refl
