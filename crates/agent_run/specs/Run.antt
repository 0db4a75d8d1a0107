-- The run of one caller's lines, after a state.
use Rattle.std.specs.Prelude.{◌≡◌, ℕ, Bool, false, Option, Some, List, map}
use Rattle.agent_core.specs.declared.fault.OpenFault.{OpenFault}
use Rattle.agent_core.specs.declared.fault.OpenFault.TheVariants as opening
use Rattle.agent_run.specs.declared.run.Work.{Work}
use Rattle.agent_run.specs.Standing.{standing_of}
use Rattle.chip_core.specs.Chip.{view_of}
use Rattle.core_laws.specs.Published.{CoreView, journal_of}
use Rattle.net_types.specs.declared.table.Caps.{Caps}
use Rattle.net_types.specs.declared.table.Table.{Table}
use Rattle.report_text.specs.Report.{report}
use Rattle.run_outcome.specs.declared.refusal.Refusal.{Refusal}
use Rattle.run_outcome.specs.declared.refusal.Refusal.TheVariants.{Opening as OpeningFull}
use Rattle.run_outcome.specs.declared.refusal.RunFault.{RunFault}
use Rattle.run_outcome.specs.declared.refusal.RunFault.TheVariants as run
use Rattle.run_outcome.specs.Reports.{Reports}
use Rattle.script_text.specs.declared.script.Script.{Script}
use Rattle.solo_agent.specs.Views.{SoloView}
use Rattle.switch_model.specs.declared.reply.Reply.{Reply}
use Rattle.switch_model.specs.Journal.{Opening}
use Rattle.switch_state.specs.Plain.{plain}
use Rattle.switch_state.specs.StateView.{StateView}
use Rattle.told_laws.specs.Told.{IsSolo, by_line}

-- a state as what a journal begins with, on a chip of these capacities
abbrev pub opening_of : StateView → Caps → Opening
opening_of s caps = record { state = plain s; version = s.version; caps = caps }

-- the text is the report of the run after that opening of each one caller's script that has this limit and these phases
abbrev pub ReportsRun : Work → Opening → List Bool → List ℕ → Type 0
ReportsRun work opening sures text = (script : Script) → script.limit ≡ work.limit → script.phases ≡ work.phases → IsSolo script → Reports script opening sures text

-- the table is the one that was found to be over its capacity
abbrev pub IsOverfull : Option Table → Refusal → Type 0
IsOverfull found (OpeningFull table) = found ≡ Some table
IsOverfull found _ = ⊥

-- what it means for a run that no core was opened
abbrev pub unopened : OpenFault → RunFault
unopened (opening.Full table) = run.Refused (OpeningFull table)
unopened opening.NoMemory = run.NoMemory

-- the report of a core's journal, its chip's rows and its observers, with these replies
abbrev pub report_by : CoreView → List (ℕ × Reply) → List ℕ
report_by c replies = report false (journal_of c.published) replies (view_of c.raw) (map standing_of c.audience.watches)

-- the report of all that an agent has done
abbrev pub report_of : SoloView → List ℕ
report_of a = report_by a.core (by_line a.course.replies)
