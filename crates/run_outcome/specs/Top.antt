-- What the program as one call answers, and why.
use Rattle.std.specs.Prelude.{ℕ, ◌≡◌, ◌≤◌, ◌+◌, ◌⊎◌, Bool, List, [], ◌∷◌, length, Option, Some, Err, codes}
use Rattle.std.specs.Io.KnownBytes.{Appends}
use Rattle.io_edge.specs.Causes.{Rose, WholeInput, ReadsPrefix, AppendsPrefix, Writes}
use Rattle.net_types.specs.Capacity.{over}
use Rattle.net_types.specs.declared.table.Table.{Table}
use Rattle.run_outcome.specs.declared.refusal.Refusal.{Refusal}
use Rattle.run_outcome.specs.declared.refusal.Refusal.TheVariants.{Byte, Word, NotBuilt, Base, Opening as OpeningFull}
use Rattle.run_outcome.specs.declared.refusal.RunFault.{RunFault}
use Rattle.run_outcome.specs.declared.refusal.RunFault.TheVariants as run
use Rattle.run_outcome.specs.declared.status.Status.{Status}
use Rattle.run_outcome.specs.declared.status.Status.TheVariants as status
use Rattle.run_outcome.specs.Opening.{IsBuilt, IsOpening, IsRunnable}
use Rattle.run_outcome.specs.Refusal.{refusal_line, status_of}
use Rattle.run_outcome.specs.Reports.{IsReportOf}
use Rattle.script_words.specs.Lines.{lines}
use Rattle.script_text.specs.declared.fault.ScriptFault.TheVariants as faults
use Rattle.script_text.specs.declared.script.Script.{Script}
use Rattle.script_text.specs.Script.{IsScript, IsScriptFault}
use Rattle.switch_model.specs.Built.{laid}
use Rattle.switch_model.specs.Journal.{Opening}
use Rattle.switch_model.specs.PlainState.{empty}
use Rattle.switch_model.specs.Rows.{rows}

-- the rows of the script's opening state are over the capacity of that table
pub record IsTooBig (script : Script) (table : Table) : Type 0 where
  pub opening : Opening
  pub opens : IsOpening script opening
  pub over : over (rows opening.state) opening.caps ≡ Some table

-- the base has an invalid act, the first on that line, or leads to a state whose rows don't fit
abbrev pub IsBaseRefused : Script → Refusal → Type 0
IsBaseRefused script (Base line reason) = laid empty script.base ≡ Err (line, reason)
IsBaseRefused script (OpeningFull table) = IsTooBig script table
IsBaseRefused script _ = ⊥

-- the script isn't built, or its base is refused
abbrev pub IsScriptRefused : Script → Refusal → Type 0
IsScriptRefused script NotBuilt = IsBuilt script → ⊥
IsScriptRefused script refusal = IsBuilt script × IsBaseRefused script refusal

-- the bytes have that fault, or are a script that isn't built, or one whose base is refused
abbrev pub IsRefused : List ℕ → Refusal → Type 0
IsRefused bytes (Byte line) = IsScriptFault (lines bytes) (faults.Byte line)
IsRefused bytes (Word line word) = IsScriptFault (lines bytes) (faults.Word line word)
IsRefused bytes refusal = (script : Script) × IsScript bytes script × IsScriptRefused script refusal

-- a fault that isn't want of memory is a refusal
abbrev pub OrNoMemory : (Refusal → Type 0) → RunFault → Type 0
OrNoMemory Is (run.Refused refusal) = Is refusal
OrNoMemory Is run.NoMemory = Unit {0}

-- the longest script that is read, in bytes
abbrev pub longest_script : ℕ
longest_script = 16777216

-- what the source has left and the sink has written, each with its count of faults
pub record Outside : Type 0 where
  pub left : Option (List ℕ)
  pub read_faults : ℕ
  pub written : Option (List ℕ)
  pub write_faults : ℕ

-- a source and a sink, by what each tells of itself
abbrev pub outside : {S K : Type 0} → (S → Option (List ℕ)) → (S → ℕ) → (K → Option (List ℕ)) → (K → ℕ) → S → K → Outside
outside left read_faults written write_faults source sink = record { left = left source; read_faults = read_faults source; written = written sink; write_faults = write_faults sink }

-- the whole input was read, and isn't too long
pub record ReadsAll (old new : Outside) (input : List ℕ) : Type 0 where
  pub whole : WholeInput old.left new.left input
  pub within : length input ≤ longest_script

-- the whole input is a script that is run, and its report was written, and nothing else
pub record Reported (sures : List Bool) (old new : Outside) : Type 0 where
  pub input : List ℕ
  pub text : List ℕ
  pub read : ReadsAll old new input
  pub report : IsReportOf sures input text
  pub written : Appends old.written new.written text

-- the whole input is a script that is run, and a prefix of its report was written
pub record CutShort (sures : List Bool) (old new : Outside) : Type 0 where
  pub input : List ℕ
  pub text : List ℕ
  pub read : ReadsAll old new input
  pub report : IsReportOf sures input text
  pub written : AppendsPrefix old.written new.written text

-- the bytes aren't run for that reason, which has that status
pub record IsRefusedAs (answer : Status) (bytes : List ℕ) (refusal : Refusal) : Type 0 where
  pub reason : IsRefused bytes refusal
  pub never : IsRunnable bytes → ⊥
  pub is : answer ≡ status_of refusal

-- the line was written, or a prefix of it before the sink failed
abbrev pub WritesLine : Outside → Outside → List ℕ → Type 0
WritesLine old new line = Writes old.written new.written old.write_faults new.write_faults line

-- the whole input isn't run, and the error line that says why was written, or a prefix of it before the sink failed
pub record Refused (answer : Status) (old new : Outside) : Type 0 where
  pub input : List ℕ
  pub refusal : Refusal
  pub read : ReadsAll old new input
  pub refused : IsRefusedAs answer input refusal
  pub written : WritesLine old new (refusal_line refusal)

-- the words of the command: the one word `run`
abbrev pub IsRunCommand : List (List ℕ) → Type 0
IsRunCommand words = words ≡ codes "run" ∷ []

-- the words are no command, and the error line was written, or a prefix of it before the sink failed; nothing was read
pub record Misused (words : List (List ℕ)) (old new : Outside) : Type 0 where
  pub other : IsRunCommand words → ⊥
  pub line : WritesLine old new (codes "error: words\n")
  pub unread : new.left ≡ old.left

-- nothing is written at a fault of the source or the store, a refusal of memory, or a text that is too long
abbrev pub WritesNothing : Status → Outside → Outside → Type 0
WritesNothing status.ReadFault old new = new.written ≡ old.written
WritesNothing status.NoMemory old new = new.written ≡ old.written
WritesNothing status.TooLong old new = new.written ≡ old.written
WritesNothing status.Done old new = Unit {0}
WritesNothing status.Words old new = Unit {0}
WritesNothing status.Script old new = Unit {0}
WritesNothing status.WriteFault old new = Unit {0}
WritesNothing status.StoreFault old new = new.written ≡ old.written
WritesNothing status.Saved old new = Unit {0}
WritesNothing status.OpeningFull old new = Unit {0}

-- the sink's count of faults stands where the whole report was written, or nothing
abbrev pub SinkStands : Status → ℕ → ℕ → Type 0
SinkStands status.Done before now = now ≡ before
SinkStands status.ReadFault before now = now ≡ before
SinkStands status.NoMemory before now = now ≡ before
SinkStands status.TooLong before now = now ≡ before
SinkStands status.Words before now = Unit {0}
SinkStands status.Script before now = Unit {0}
SinkStands status.WriteFault before now = Unit {0}
SinkStands status.StoreFault before now = now ≡ before
SinkStands status.Saved before now = Unit {0}
SinkStands status.OpeningFull before now = Unit {0}

-- a whole script that is run and isn't too long, with no fault on the way, is answered by its report or for want of memory
abbrev pub IsComplete : List (List ℕ) → Outside → Outside → Status → Type 0
IsComplete words old new answer =
    (input : List ℕ) → IsRunCommand words → old.left ≡ Some input → length input ≤ longest_script → IsRunnable input →
    (Rose old.read_faults new.read_faults → ⊥) → (Rose old.write_faults new.write_faults → ⊥) → (answer ≡ status.Done) ⊎ (answer ≡ status.NoMemory)

-- what was done, by the status that was answered
abbrev pub Served : List Bool → List (List ℕ) → Outside → Outside → Status → Type 0
Served sures words old new status.Done = IsRunCommand words × Reported sures old new
Served sures words old new status.Words = Misused words old new
Served sures words old new status.Script = IsRunCommand words × Refused status.Script old new
Served sures words old new status.OpeningFull = IsRunCommand words × Refused status.OpeningFull old new
Served sures words old new status.ReadFault = IsRunCommand words × Rose old.read_faults new.read_faults × (new.written ≡ old.written)
Served sures words old new status.WriteFault = IsRunCommand words × Rose old.write_faults new.write_faults × CutShort sures old new
Served sures words old new status.StoreFault = ⊥
Served sures words old new status.Saved = ⊥
Served sures words old new status.NoMemory = IsRunCommand words × (new.written ≡ old.written)
Served sures words old new status.TooLong = IsRunCommand words × ReadsPrefix old.left new.left (longest_script + 1) × (new.written ≡ old.written)

-- the error line of a refusal was written, unless memory ran out before
abbrev pub Declined : Refusal → Option (List ℕ) → Option (List ℕ) → ℕ → ℕ → Status → Type 0
Declined refusal old new before now status.NoMemory = new ≡ old
Declined refusal old new before now answer = (answer ≡ status_of refusal) × Writes old new before now (refusal_line refusal)

-- what was written for these bytes, with the sink's count of faults before and now
abbrev pub Answered : List Bool → List ℕ → Option (List ℕ) → Option (List ℕ) → ℕ → ℕ → Status → Type 0
Answered sures bytes old new before now status.Done = (text : List ℕ) × IsReportOf sures bytes text × Appends old new text
Answered sures bytes old new before now status.Script = (refusal : Refusal) × IsRefusedAs status.Script bytes refusal × Writes old new before now (refusal_line refusal)
Answered sures bytes old new before now status.OpeningFull = (refusal : Refusal) × IsRefusedAs status.OpeningFull bytes refusal × Writes old new before now (refusal_line refusal)
Answered sures bytes old new before now status.WriteFault = Rose before now × ((text : List ℕ) × IsReportOf sures bytes text × AppendsPrefix old new text)
Answered sures bytes old new before now status.NoMemory = new ≡ old
Answered sures bytes old new before now status.Words = ⊥
Answered sures bytes old new before now status.ReadFault = ⊥
Answered sures bytes old new before now status.TooLong = ⊥
Answered sures bytes old new before now status.StoreFault = ⊥
Answered sures bytes old new before now status.Saved = ⊥
