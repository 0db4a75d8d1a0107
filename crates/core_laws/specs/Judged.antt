-- Updates with their verdicts.
use Rattle.std.specs.Prelude.{Bool, true, false, List, [], ◌∷◌, if◌then◌else◌}
use Rattle.switch_model.specs.declared.act.Submission.{Submission}
use Rattle.switch_model.specs.declared.verdict.Verdict.{Verdict}
use Rattle.switch_model.specs.Journal.{after_verdict}
use Rattle.switch_model.specs.PlainState.{PlainState}
use Rattle.switch_model.specs.Round.{is_accepted}

-- some update was accepted
abbrev pub accepts : List (Submission × Verdict) → Bool
accepts [] = false
accepts (x ∷ xs) = if is_accepted x.1 then true else accepts xs

-- the state after updates with those verdicts
abbrev pub after_judged : PlainState → List (Submission × Verdict) → PlainState
after_judged m [] = m
after_judged m (x ∷ xs) = after_judged (after_verdict m x.0.update x.1) xs
