-- What the program answers to the commands that wait for nobody, and why.
use Rattle.std.specs.Prelude.{◌≡◌, ◌≤◌, ◌⊎◌, ℕ, List, Option, Some, codes, length}
use Rattle.std.specs.Io.KnownBytes.{Appends}
use Rattle.agent_words.specs.declared.command.Command.TheVariants.{Check}
use Rattle.agent_words.specs.Words.{IsCommand}
use Rattle.io_edge.specs.Causes.{AppendsPrefix, Rose, Writes}
use Rattle.io_edge.specs.Texts.{HasLonger, HasText, Texts}
use Rattle.run_outcome.specs.declared.refusal.Refusal.TheVariants.{Saved}
use Rattle.run_outcome.specs.declared.refusal.SavedRefusal.{SavedRefusal}
use Rattle.run_outcome.specs.declared.status.Status.{Status}
use Rattle.run_outcome.specs.declared.status.Status.TheVariants as status
use Rattle.run_outcome.specs.Refusal.{refusal_line}
use Rattle.saved_state.specs.Contents.{Contents}
use Rattle.offline_run.specs.Check.{IsRefusedFor, IsTakenOver, TellsOf}

-- the longest saved text that is read, in bytes
abbrev pub longest_saved : ℕ
longest_saved = 67108864

-- what the store keeps and the sink has written, each with its count of faults
pub record Edges : Type 0 where
  pub texts : Option Texts
  pub store_faults : ℕ
  pub written : Option (List ℕ)
  pub write_faults : ℕ

-- a store and a sink, by what each tells of itself
abbrev pub edges : {F K : Type 0} → (F → Option Texts) → (F → ℕ) → (K → Option (List ℕ)) → (K → ℕ) → F → K → Edges
edges texts store_faults written write_faults store sink = record { texts = texts store; store_faults = store_faults store; written = written sink; write_faults = write_faults sink }

-- the words ask to check what is kept under the name
abbrev pub IsCheckOf : List ℕ → List (List ℕ) → Type 0
IsCheckOf name words = IsCommand (Check name) words

-- the text stands under the name, and isn't too long
pub record IsLoaded (name : List ℕ) (old : Edges) (bytes : List ℕ) : Type 0 where
  pub stands : HasText old.texts name bytes
  pub within : length bytes ≤ longest_saved

-- what is kept under the name is taken over, and the line that tells of it was written, and nothing else
pub record IsChecked (name : List ℕ) (old new : Edges) : Type 0 where
  pub bytes : List ℕ
  pub line : List ℕ
  pub loaded : IsLoaded name old bytes
  pub tells : TellsOf bytes line
  pub written : Appends old.written new.written line

-- what is kept under the name is taken over, and a prefix of the line that tells of it was written
pub record IsCutShort (name : List ℕ) (old new : Edges) : Type 0 where
  pub bytes : List ℕ
  pub line : List ℕ
  pub loaded : IsLoaded name old bytes
  pub tells : TellsOf bytes line
  pub written : AppendsPrefix old.written new.written line

-- what is kept under the name isn't taken over, and the error line that says why was written, or a prefix of it before the sink failed
pub record IsRefusedText (name : List ℕ) (old new : Edges) : Type 0 where
  pub bytes : List ℕ
  pub why : SavedRefusal
  pub loaded : IsLoaded name old bytes
  pub refused : IsRefusedFor bytes why
  pub written : Writes old.written new.written old.write_faults new.write_faults (refusal_line (Saved why))

-- what was done for a check of the name, by the status that was answered
abbrev pub CheckedAs : List ℕ → Edges → Edges → Status → Type 0
CheckedAs name old new status.Done = IsChecked name old new
CheckedAs name old new status.Saved = IsRefusedText name old new
CheckedAs name old new status.StoreFault = Rose old.store_faults new.store_faults × (new.written ≡ old.written)
CheckedAs name old new status.WriteFault = Rose old.write_faults new.write_faults × IsCutShort name old new
CheckedAs name old new status.TooLong = HasLonger old.texts name longest_saved × (new.written ≡ old.written)
CheckedAs name old new status.NoMemory = new.written ≡ old.written
CheckedAs name old new status.Words = ⊥
CheckedAs name old new status.Script = ⊥
CheckedAs name old new status.ReadFault = ⊥
CheckedAs name old new status.OpeningFull = ⊥

-- the words ask for no check, and the error line was written, or a prefix of it before the sink failed
pub record IsMisused (words : List (List ℕ)) (old new : Edges) : Type 0 where
  pub other : (name : List ℕ) → IsCheckOf name words → ⊥
  pub written : Writes old.written new.written old.write_faults new.write_faults (codes "error: words\n")

-- the words ask for a check, and this was done for it
pub record IsCheckedAs (words : List (List ℕ)) (old new : Edges) (answer : Status) : Type 0 where
  pub name : List ℕ
  pub asked : IsCheckOf name words
  pub done : CheckedAs name old new answer

-- what was done, by the status that was answered
abbrev pub ServedOffline : List (List ℕ) → Edges → Edges → Status → Type 0
ServedOffline words old new status.Words = IsMisused words old new
ServedOffline words old new status.NoMemory = new.written ≡ old.written
ServedOffline words old new answer = IsCheckedAs words old new answer

-- what was written for these bytes, with the sink's count of faults before and now
abbrev pub AnsweredText : List ℕ → Option (List ℕ) → Option (List ℕ) → ℕ → ℕ → Status → Type 0
AnsweredText bytes old new before now status.Done = (line : List ℕ) × TellsOf bytes line × Appends old new line
AnsweredText bytes old new before now status.Saved = (why : SavedRefusal) × IsRefusedFor bytes why × Writes old new before now (refusal_line (Saved why))
AnsweredText bytes old new before now status.WriteFault = Rose before now × ((line : List ℕ) × TellsOf bytes line × AppendsPrefix old new line)
AnsweredText bytes old new before now status.NoMemory = new ≡ old
AnsweredText bytes old new before now answer = ⊥

-- words that ask for no check are answered so, but for want of memory
abbrev pub TellsOfWords : List (List ℕ) → Status → Type 0
TellsOfWords words answer = ((name : List ℕ) → IsCheckOf name words → ⊥) → (answer ≡ status.Words) ⊎ (answer ≡ status.NoMemory)

-- a text that the store tells and that is too long is answered so, if the store doesn't fail, but for want of memory
abbrev pub TellsOfLength : List (List ℕ) → Edges → Edges → Status → Type 0
TellsOfLength words old new answer =
    (name : List ℕ) (texts : Texts) → IsCheckOf name words → old.texts ≡ Some texts → HasLonger old.texts name longest_saved →
    (Rose old.store_faults new.store_faults → ⊥) → (answer ≡ status.TooLong) ⊎ (answer ≡ status.NoMemory)

-- a text that the store tells and that isn't taken over is refused, if the store doesn't fail, but for want of memory
abbrev pub TellsOfRefusal : List (List ℕ) → Edges → Edges → Status → Type 0
TellsOfRefusal words old new answer =
    (name bytes : List ℕ) (texts : Texts) (why : SavedRefusal) → IsCheckOf name words → old.texts ≡ Some texts → IsLoaded name old bytes → IsRefusedFor bytes why →
    (Rose old.store_faults new.store_faults → ⊥) → (answer ≡ status.Saved) ⊎ (answer ≡ status.NoMemory)

-- a text that the store tells and that is taken over is told of, with no fault on the way, but for want of memory
abbrev pub IsCompleteCheck : List (List ℕ) → Edges → Edges → Status → Type 0
IsCompleteCheck words old new answer =
    (name bytes : List ℕ) (texts : Texts) (c : Contents) → IsCheckOf name words → old.texts ≡ Some texts → IsLoaded name old bytes → IsTakenOver bytes c →
    (Rose old.store_faults new.store_faults → ⊥) → (Rose old.write_faults new.write_faults → ⊥) → (answer ≡ status.Done) ⊎ (answer ≡ status.NoMemory)
