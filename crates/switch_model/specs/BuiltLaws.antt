-- Acts one by one: what has been built at a place, and what the act there makes of it.
use Rattle.std.proofs.Common.{◌≡◌, ◌<◌, ◌≤◌, ◌+◌, ℕ, None, Some, Option, Result, Ok, Err, List, [], ◌∷◌, length, drop, get_or, sym, ap, ◌∙◌}
use Rattle.std.proofs.lemmas.List.{drop_more, drop_all}
use Rattle.switch_model.specs.declared.act.Act.{Act}
use Rattle.switch_model.specs.declared.verdict.Reason.{Reason}
use Rattle.switch_model.specs.Built.{unless, laid, placed, built}
use Rattle.switch_model.specs.Effect.{effect}
use Rattle.switch_model.specs.PlainState.{PlainState}
use Rattle.switch_model.specs.Reason.{reason_of_act}

-- a valid act, and then those after it
pub laid_valid : (m : PlainState) (number : ℕ) (act : Act) (xs : List (ℕ × Act)) → reason_of_act m act ≡ None → laid m ((number, act) ∷ xs) ≡ laid (effect m act) xs
laid_valid m number act xs none = ap (λ (o : Option Reason). unless o number (laid (effect m act) xs)) none

-- an act that is refused ends it
pub laid_refused : (m : PlainState) (number : ℕ) (act : Act) (xs : List (ℕ × Act)) (reason : Reason) → reason_of_act m act ≡ Some reason → laid m ((number, act) ∷ xs) ≡ Err (number, reason)
laid_refused m number act xs reason some = ap (λ (o : Option Reason). unless o number (laid (effect m act) xs)) some

-- the acts from a place on: the one there, and those after it
pub placed_at : (acts : List Act) (place : ℕ) (act : Act) → place < length acts → act ≡ get_or acts place act → placed place (drop place acts) ≡ (place, act) ∷ placed (place + 1) (drop (place + 1) acts)
placed_at acts place act within there = ap (placed place) (drop_more acts place act within ∙ ap (λ (a : Act). a ∷ drop (place + 1) acts) (sym there))

module _ (start now : PlainState) (acts : List Act) (place : ℕ) (is : built start acts ≡ laid now (placed place (drop place acts))) where
  pub built_more : (act : Act) → place < length acts → act ≡ get_or acts place act → reason_of_act now act ≡ None → built start acts ≡ laid (effect now act) (placed (place + 1) (drop (place + 1) acts))
  built_more act within there valid = is ∙ ap (laid now) (placed_at acts place act within there) ∙ laid_valid now place act (placed (place + 1) (drop (place + 1) acts)) valid

  pub built_stops : (act : Act) (reason : Reason) → place < length acts → act ≡ get_or acts place act → reason_of_act now act ≡ Some reason → built start acts ≡ Err (place, reason)
  built_stops act reason within there refused = is ∙ ap (laid now) (placed_at acts place act within there) ∙ laid_refused now place act (placed (place + 1) (drop (place + 1) acts)) reason refused

  pub built_whole : length acts ≤ place → built start acts ≡ Ok now
  built_whole over = is ∙ ap (λ (l : List Act). laid now (placed place l)) (drop_all place acts over)
