-- What the base of a cold start comes to.
use Rattle.std.specs.Prelude.{◌≡◌, ℕ, Ok, Err, List}
use Rattle.base_state.specs.declared.base.Base.{Base}
use Rattle.base_state.specs.declared.base.Base.TheVariants.{Laid, Bad}
use Rattle.switch_model.specs.declared.act.Act.{Act}
use Rattle.switch_model.specs.Built.{laid}
use Rattle.switch_model.specs.PlainState.{empty}
use Rattle.switch_model.specs.Sound.{IsSound}
use Rattle.switch_state.specs.Plain.{plain}
use Rattle.switch_state.specs.StateView.{StateView}

-- the acts lead to the state, which is sound and of version 0
pub record IsLaid (acts : List (ℕ × Act)) (s : StateView) : Type 0 where
  pub state : laid empty acts ≡ Ok (plain s)
  pub version : s.version ≡ 0
  pub sound : IsSound (plain s)

-- the acts lead to a state, or have an invalid one
abbrev pub IsBase : List (ℕ × Act) → Base → Type 0
IsBase acts (Laid s) = IsLaid acts s
IsBase acts (Bad line reason) = laid empty acts ≡ Err (line, reason)
