-- The words of a line: what stands between its spaces.
use Rattle.std.specs.Prelude.{ℕ, suc, Bool, true, false, List, [], ◌∷◌, ◌==◌, if◌then◌else◌}

-- whether a word goes on here
abbrev pub goes_on : List ℕ → Bool
goes_on [] = false
goes_on (b ∷ bs) = if b == 32 then false else true

-- a byte in front of the first word
abbrev pub onto_first : ℕ → List (List ℕ) → List (List ℕ)
onto_first b [] = (b ∷ []) ∷ []
onto_first b (w ∷ ws) = (b ∷ w) ∷ ws

-- words are separated by one or more spaces, and spaces at the ends of a line don't matter
unfoldable pub words : List ℕ → List (List ℕ)
words [] = []
words (b ∷ bs) = if b == 32 then words bs else if goes_on bs then onto_first b (words bs) else (b ∷ []) ∷ words bs

-- how many bytes stand before the first space
abbrev pub word_len : List ℕ → ℕ
word_len [] = 0
word_len (b ∷ bs) = if b == 32 then 0 else suc (word_len bs)
