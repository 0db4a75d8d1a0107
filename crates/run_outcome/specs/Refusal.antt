-- Why a script isn't run, or a saved text isn't taken over, and the line that says so.
use Rattle.std.specs.Prelude.{ℕ, List, ◌++◌, codes}
use Rattle.std.specs.Fmt.{decimal}
use Rattle.report_text.specs.EntryText.{reason_text, table_text}
use Rattle.script_text.specs.declared.fault.ScriptFault.{ScriptFault}
use Rattle.script_text.specs.declared.fault.ScriptFault.TheVariants as faults
use Rattle.run_outcome.specs.declared.refusal.Refusal.{Refusal}
use Rattle.run_outcome.specs.declared.refusal.Refusal.TheVariants.{Byte, Word, NotBuilt, Base, Opening, Saved}
use Rattle.run_outcome.specs.declared.refusal.RunFault.{RunFault}
use Rattle.run_outcome.specs.declared.refusal.RunFault.TheVariants.{Refused, NoMemory}
use Rattle.run_outcome.specs.declared.refusal.SavedRefusal.{SavedRefusal}
use Rattle.run_outcome.specs.declared.refusal.SavedRefusal.TheVariants as saved
use Rattle.run_outcome.specs.declared.status.Status.{Status}
use Rattle.run_outcome.specs.declared.status.Status.TheVariants as status

-- why a saved text isn't taken over, in words
abbrev pub saved_words : SavedRefusal → List ℕ
saved_words saved.NotJson = codes "not json"
saved_words saved.BadShape = codes "bad shape"
saved_words saved.BadDigest = codes "bad digest"
saved_words (saved.BadState reason) = codes "bad state " ++ reason_text reason
saved_words saved.BadRows = codes "bad rows"
saved_words (saved.ChipDiffers table) = codes "chip differs " ++ table_text table

-- the error line
abbrev pub refusal_line : Refusal → List ℕ
refusal_line (Byte line) = codes "error: script line " ++ (decimal line ++ codes " byte\n")
refusal_line (Word line word) = codes "error: script line " ++ (decimal line ++ (codes " word " ++ (decimal word ++ codes "\n")))
refusal_line NotBuilt = codes "error: script not built\n"
refusal_line (Base line reason) = codes "error: script line " ++ (decimal line ++ (codes " base " ++ (reason_text reason ++ codes "\n")))
refusal_line (Opening table) = codes "error: opening full " ++ (table_text table ++ codes "\n")
refusal_line (Saved why) = codes "error: saved " ++ (saved_words why ++ codes "\n")

-- a base that is over a capacity has a status of its own, and so has a saved text
abbrev pub status_of : Refusal → Status
status_of (Opening table) = status.OpeningFull
status_of (Saved why) = status.Saved
status_of _ = status.Script

-- what a fault of reading a script means for its run
abbrev pub unread : ScriptFault → RunFault
unread (faults.Byte line) = Refused (Byte line)
unread (faults.Word line word) = Refused (Word line word)
unread faults.NoMemory = NoMemory
