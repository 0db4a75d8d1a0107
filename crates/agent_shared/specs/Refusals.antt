-- Why an update wasn't submitted.
use Rattle.std.specs.Prelude.{◌≡◌, ℕ, List, length}
use Rattle.switch_model.specs.declared.act.Submission.{Submission}
use Rattle.switch_model.specs.declared.act.Update.{Update}
use Rattle.agent_shared.specs.declared.desk.SubmitFault.{SubmitFault}
use Rattle.agent_shared.specs.declared.desk.SubmitFault.TheVariants.{HistoryFull, NoMemory}

-- the update is handed back, and for a full history there are as many submissions as the limit allows
abbrev pub IsRefused : Update → ℕ → List Submission → SubmitFault → Type 0
IsRefused update limit sent (HistoryFull back) = (back ≡ update) × (length sent ≡ limit)
IsRefused update limit sent (NoMemory back) = back ≡ update
