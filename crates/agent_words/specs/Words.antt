-- What words each command has.
use Rattle.std.specs.Prelude.{◌≡◌, ◌≤◌, ◌<◌, ◌^◌, ◌==◌, ◌||◌, ℕ, Bool, true, false, List, [], ◌∷◌, Some, None, codes}
use Rattle.std.specs.Fmt.{decimal}
use Rattle.net_types.specs.Names.{is_name}
use Rattle.agent_words.specs.declared.command.Command.{Command}
use Rattle.agent_words.specs.declared.command.Command.TheVariants.{Run, Check, Gen}

-- the word begins with a hyphen
abbrev pub begins_with_hyphen : List ℕ → Bool
begins_with_hyphen [] = false
begins_with_hyphen (x ∷ xs) = x == 45

-- `run`, `run NAME`, `check NAME` or `gen SEED COUNT`, whatever stands for the values
pub data Form : Type 0 where
  run_form : Form
  keep_form : List ℕ → Form
  check_form : List ℕ → Form
  gen_form : List ℕ → List ℕ → Form

abbrev pub words_of : Form → List (List ℕ)
words_of run_form = codes "run" ∷ []
words_of (keep_form name) = codes "run" ∷ name ∷ []
words_of (check_form name) = codes "check" ∷ name ∷ []
words_of (gen_form seed count) = codes "gen" ∷ seed ∷ count ∷ []

-- the words ask for the command: a name is a NAME, a seed has 64 bits, and a count is from 1 to 20,000
abbrev pub IsCommand : Command → List (List ℕ) → Type 0
IsCommand (Run None) words = words ≡ codes "run" ∷ []
IsCommand (Run (Some name)) words = (words ≡ codes "run" ∷ name ∷ []) × (is_name name ≡ true)
IsCommand (Check name) words = (words ≡ codes "check" ∷ name ∷ []) × (is_name name ≡ true)
IsCommand (Gen seed count) words = (words ≡ codes "gen" ∷ decimal seed ∷ decimal count ∷ []) × (seed < 2 ^ 64) × (1 ≤ count) × (count ≤ 20000)

-- a sign, or a zero before a further digit
abbrev pub is_padded : List ℕ → Bool
is_padded [] = false
is_padded (d ∷ []) = d == 43
is_padded (d ∷ e ∷ ds) = d == 43 || d == 48
