-- What acts build.
use Rattle.std.specs.Prelude.{ℕ, ◌+◌, Option, None, Some, Result, Ok, Err, List, [], ◌∷◌}
use Rattle.switch_model.specs.declared.act.Act.{Act}
use Rattle.switch_model.specs.declared.verdict.Reason.{Reason}
use Rattle.switch_model.specs.Effect.{effect}
use Rattle.switch_model.specs.PlainState.{PlainState}
use Rattle.switch_model.specs.Reason.{reason_of_act}

-- an act's number with the reason against it, where there is one, else what comes next
abbrev pub unless : Option Reason → ℕ → Result PlainState (ℕ × Reason) → Result PlainState (ℕ × Reason)
unless None number next = next
unless (Some reason) number next = Err (number, reason)

-- numbered acts in turn: the state that they lead to, or the number of the first that is invalid there, and why
abbrev pub laid : PlainState → List (ℕ × Act) → Result PlainState (ℕ × Reason)
laid m [] = Ok m
laid m (x ∷ xs) = unless (reason_of_act m x.1) x.0 (laid (effect m x.1) xs)

-- acts by their places, counted from that one
abbrev pub placed : ℕ → List Act → List (ℕ × Act)
placed place [] = []
placed place (act ∷ acts) = (place, act) ∷ placed (place + 1) acts

-- acts in turn: the state, or the place of the first that is refused, counted from 0, and why
abbrev pub built : PlainState → List Act → Result PlainState (ℕ × Reason)
built m acts = laid m (placed 0 acts)
