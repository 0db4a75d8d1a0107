-- The lines of a text, and which of them are skipped.
use Rattle.std.specs.Prelude.{ℕ, suc, Bool, true, false, List, [], ◌∷◌, ◌==◌, ◌&&◌, nat_le, if◌then◌else◌}
use Rattle.script_words.specs.Words.{onto_first}

-- a line ends at a line feed; what follows the last line feed is a line if it isn't empty
unfoldable pub lines : List ℕ → List (List ℕ)
lines [] = []
lines (b ∷ bs) = if b == 10 then [] ∷ lines bs else onto_first b (lines bs)

-- how many bytes stand before the first line feed
abbrev pub line_len : List ℕ → ℕ
line_len [] = 0
line_len (b ∷ bs) = if b == 10 then 0 else suc (line_len bs)

-- each byte is a space or a printed sign of ASCII
abbrev pub all_allowed : List ℕ → Bool
all_allowed [] = true
all_allowed (b ∷ bs) = (nat_le 32 b && nat_le b 126) && all_allowed bs

-- a word that begins with `#`
abbrev pub is_comment : List ℕ → Bool
is_comment [] = false
is_comment (b ∷ bs) = b == 35

-- a line with no word, or whose first word begins with `#`, is skipped
abbrev pub is_skipped : List (List ℕ) → Bool
is_skipped [] = true
is_skipped (w ∷ ws) = is_comment w
