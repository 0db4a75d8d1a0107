-- What was read so far of a script, and what it grows to by one line more.
use Rattle.std.specs.Prelude.{◌≡◌, ◌⊎◌, ℕ, true, false, Option, Some, None, List, [], ◌∷◌, ◌++◌}
use Rattle.switch_model.specs.declared.act.Act.{Act}
use Rattle.script_text.specs.declared.script.Start.{Start}
use Rattle.script_text.specs.declared.script.Line.{Line}
use Rattle.script_text.specs.declared.script.Script.{Script}
use Rattle.script_text.specs.declared.entries.Entry.{Entry}
use Rattle.script_text.specs.declared.entries.Entry.TheVariants.{Starts, Limits, Calls, Bases, NewPhase, Does}
use Rattle.script_text.specs.declared.entries.Stage.{Stage}
use Rattle.script_text.specs.declared.entries.Stage.TheVariants.{Opening, Started, Limited, Called, InPhase}
use Rattle.script_text.specs.declared.whole.Draft.{Draft}
use Rattle.script_text.specs.declared.whole.Draft.TheVariants as drafts
use Rattle.script_text.specs.declared.fault.ScriptFault.{ScriptFault}
use Rattle.script_text.specs.declared.fault.ScriptFault.TheVariants.{Byte, Word, NoMemory}
use Rattle.script_words.specs.Words.{words}
use Rattle.script_words.specs.Lines.{all_allowed, is_skipped}
use Rattle.script_text.specs.Script.{is_cold, IsEntry, IsBadWord, behind, line_entries, script_entries}

-- a script with no base and no phase
abbrev pub bare : Start → ℕ → ℕ → Script
bare start limit callers = record { start = start; limit = limit; callers = callers; base = []; phases = [] }

-- a script with one act more in its base
abbrev pub with_act : Script → ℕ × Act → Script
with_act s act = record { start = s.start; limit = s.limit; callers = s.callers; base = s.base ++ act ∷ []; phases = s.phases }

-- a script with one phase more
abbrev pub with_phase : Script → List Line → Script
with_phase s lines = record { start = s.start; limit = s.limit; callers = s.callers; base = s.base; phases = s.phases ++ lines ∷ [] }

-- the draft with what one line more says
abbrev pub with_entry : Draft → Entry → Draft
with_entry drafts.Nothing (Starts start) = drafts.Start start
with_entry (drafts.Start start) (Limits limit) = drafts.Limit start limit
with_entry (drafts.Limit start limit) (Calls callers) = drafts.Base (bare start limit callers)
with_entry (drafts.Base script) (Bases line act) = drafts.Base (with_act script (line, act))
with_entry (drafts.Base script) NewPhase = drafts.Phase script []
with_entry (drafts.Phase script lines) NewPhase = drafts.Phase (with_phase script lines) []
with_entry (drafts.Phase script lines) (Does line) = drafts.Phase script (lines ++ line ∷ [])
with_entry draft entry = draft

-- what the lines so far said
abbrev pub draft_entries : Draft → List Entry
draft_entries drafts.Nothing = []
draft_entries (drafts.Start start) = Starts start ∷ []
draft_entries (drafts.Limit start limit) = Starts start ∷ Limits limit ∷ []
draft_entries (drafts.Base script) = script_entries script
draft_entries (drafts.Phase script lines) = script_entries script ++ NewPhase ∷ line_entries lines

-- where the script stands; a script without a phase that has begun has none
abbrev pub IsAt : Draft → Stage → Type 0
IsAt drafts.Nothing stage = stage ≡ Opening
IsAt (drafts.Start start) stage = stage ≡ Started (is_cold start)
IsAt (drafts.Limit start limit) stage = stage ≡ Limited (is_cold start)
IsAt (drafts.Base script) stage = (stage ≡ Called (is_cold script.start) script.callers) × (script.phases ≡ [])
IsAt (drafts.Phase script lines) stage = stage ≡ InPhase script.callers

-- the script of a draft whose callers are known
abbrev pub finished : Draft → Option Script
finished drafts.Nothing = None
finished (drafts.Start start) = None
finished (drafts.Limit start limit) = None
finished (drafts.Base script) = Some script
finished (drafts.Phase script lines) = Some (with_phase script lines)

-- a line that is good, and the draft and the stage behind it
abbrev pub IsBehind : Draft → Stage → ℕ → List ℕ → Draft → Stage → Type 0
IsBehind draft stage n line next place = (all_allowed line ≡ true) × (((is_skipped (words line) ≡ true) × (next ≡ draft) × (place ≡ stage))
    ⊎ ((e : Entry) × (is_skipped (words line) ≡ false) × IsEntry stage n e (words line) × (next ≡ with_entry draft e) × (place ≡ behind stage e)))

-- a line that is bad at its stage, and its cause
abbrev pub IsBadLine : Stage → ℕ → List ℕ → ScriptFault → Type 0
IsBadLine stage n line (Byte m) = (m ≡ n) × (all_allowed line ≡ false)
IsBadLine stage n line (Word m k) = (m ≡ n) × IsBadWord n k stage line
IsBadLine stage n line NoMemory = Unit {0}
