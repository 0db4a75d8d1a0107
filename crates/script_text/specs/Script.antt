-- Which lines may stand where, which of them make which script, and which line is the first bad one.
use Rattle.std.specs.Prelude.{◌≡◌, ◌⊎◌, ◌≤◌, ◌+◌, ℕ, Bool, true, false, List, [], ◌∷◌, ◌++◌, length}
use Rattle.switch_model.specs.declared.act.Act.{Act}
use Rattle.script_words.specs.Words.{words}
use Rattle.script_words.specs.Lines.{lines, all_allowed, is_skipped}
use Rattle.script_words.specs.Grammar.{AreWords}
use Rattle.script_words.specs.Faults.{IsBadAt}
use Rattle.script_text.specs.declared.script.Start.{Start}
use Rattle.script_text.specs.declared.script.Start.TheVariants.{Cold, Warm}
use Rattle.script_text.specs.declared.script.Line.{Line}
use Rattle.script_text.specs.declared.script.Script.{Script}
use Rattle.script_text.specs.declared.entries.Entry.{Entry}
use Rattle.script_text.specs.declared.entries.Entry.TheVariants.{Starts, Limits, Calls, Bases, NewPhase, Does}
use Rattle.script_text.specs.declared.entries.Stage.{Stage}
use Rattle.script_text.specs.declared.entries.Stage.TheVariants.{Opening, Started, Limited, Called, InPhase}
use Rattle.script_text.specs.declared.fault.ScriptFault.{ScriptFault}
use Rattle.script_text.specs.declared.fault.ScriptFault.TheVariants.{Byte, Word, NoMemory}
use Rattle.script_text.specs.Grammar.{start, limit, callers, base, phase, line}

-- whether the script starts on an empty switch
abbrev pub is_cold : Start → Bool
is_cold (Cold caps) = true
is_cold (Warm name) = false

-- the number of callers is in its range
abbrev pub IsStage : Stage → Type 0
IsStage Opening = Unit {0}
IsStage (Started cold) = Unit {0}
IsStage (Limited cold) = Unit {0}
IsStage (Called cold c) = (1 ≤ c) × (c ≤ 16)
IsStage (InPhase c) = (1 ≤ c) × (c ≤ 16)

-- the line of that number may stand at the stage and has these words; base lines only after a cold start; an act or a job has the number with it
abbrev pub IsEntry : Stage → ℕ → Entry → List (List ℕ) → Type 0
IsEntry Opening n (Starts s) ws = AreWords (start s) ws
IsEntry (Started cold) n (Limits m) ws = AreWords (limit m) ws
IsEntry (Limited cold) n (Calls c) ws = AreWords (callers c) ws
IsEntry (Called cold c) n (Bases m act) ws = (cold ≡ true) × (m ≡ n) × AreWords (base act) ws
IsEntry (Called cold c) n NewPhase ws = AreWords phase ws
IsEntry (InPhase c) n NewPhase ws = AreWords phase ws
IsEntry (InPhase c) n (Does l) ws = (l.line ≡ n) × AreWords (line c l) ws
IsEntry stage n entry ws = ⊥

-- where the script stands behind an entry
abbrev pub behind : Stage → Entry → Stage
behind Opening (Starts s) = Started (is_cold s)
behind (Started cold) (Limits m) = Limited cold
behind (Limited cold) (Calls c) = Called cold c
behind (Called cold c) NewPhase = InPhase c
behind stage entry = stage

-- the lines from that number on are good and say these things, from one stage to another
abbrev pub AreEntries : Stage → ℕ → List (List ℕ) → List Entry → Stage → Type 0
AreEntries s n [] entries t = (entries ≡ []) × (t ≡ s)
AreEntries s n (line ∷ more) entries t = (all_allowed line ≡ true) × (((is_skipped (words line) ≡ true) × AreEntries s (n + 1) more entries t)
    ⊎ ((e : Entry) × (others : List Entry) × (is_skipped (words line) ≡ false) × IsEntry s n e (words line) × AreEntries (behind s e) (n + 1) more others t × (entries ≡ e ∷ others)))

-- base*
abbrev pub base_entries : List (ℕ × Act) → List Entry
base_entries [] = []
base_entries (act ∷ acts) = Bases act.0 act.1 ∷ base_entries acts

-- the lines of a phase
abbrev pub line_entries : List Line → List Entry
line_entries [] = []
line_entries (l ∷ ls) = Does l ∷ line_entries ls

-- phase*, each "phase" and its lines
abbrev pub phase_entries : List (List Line) → List Entry
phase_entries [] = []
phase_entries (p ∷ ps) = NewPhase ∷ (line_entries p ++ phase_entries ps)

-- a script: start limit callers base* phase*
abbrev pub script_entries : Script → List Entry
script_entries s = Starts s.start ∷ Limits s.limit ∷ Calls s.callers ∷ (base_entries s.base ++ phase_entries s.phases)

-- the lines of the bytes say the script
abbrev pub IsScript : List ℕ → Script → Type 0
IsScript bytes script = (end : Stage) × AreEntries Opening 1 (lines bytes) (script_entries script) end

-- the stages before the line of the callers
abbrev pub IsHead : Stage → Type 0
IsHead Opening = Unit {0}
IsHead (Started cold) = Unit {0}
IsHead (Limited cold) = Unit {0}
IsHead (Called cold c) = ⊥
IsHead (InPhase c) = ⊥

-- line n is bad at its stage, and the lines before it are good
pub record IsFirstBad (text : List (List ℕ)) (n : ℕ) (Bad : Stage → List ℕ → Type 0) : Type 0 where
  pub front : List (List ℕ)
  pub line : List ℕ
  pub back : List (List ℕ)
  pub entries : List Entry
  pub stage : Stage
  pub parts : text ≡ front ++ (line ∷ back)
  pub good : AreEntries Opening 1 front entries stage
  pub place : n ≡ length front + 1
  pub bad : Bad stage line

-- the words are some line that may stand here
abbrev pub IsAllowed : Stage → ℕ → List (List ℕ) → Type 0
IsAllowed stage n ws = (e : Entry) × IsEntry stage n e ws

-- all bytes are allowed, the line isn't skipped, and word k is the first that no line begins with that may stand here
abbrev pub IsBadWord : ℕ → ℕ → Stage → List ℕ → Type 0
IsBadWord n k stage line = (all_allowed line ≡ true) × (is_skipped (words line) ≡ false) × IsBadAt (IsAllowed stage n) (words line) k

-- all lines are good and the callers are missing: word 0 of the line behind the last
abbrev pub EndsEarly : List (List ℕ) → ℕ → ℕ → Type 0
EndsEarly text n k = (entries : List Entry) × (stage : Stage) × AreEntries Opening 1 text entries stage × IsHead stage × (n ≡ length text + 1) × (k ≡ 0)

-- the first bad line and its cause: a byte is tested before the words, on skipped lines too
abbrev pub IsScriptFault : List (List ℕ) → ScriptFault → Type 0
IsScriptFault text (Byte n) = IsFirstBad text n (λ stage line. all_allowed line ≡ false)
IsScriptFault text (Word n k) = IsFirstBad text n (IsBadWord n k) ⊎ EndsEarly text n k
IsScriptFault text NoMemory = Unit {0}
