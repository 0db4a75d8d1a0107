-- What is written in a row.
use Rattle.std.specs.Prelude.{◌++◌, ℕ, Bool, List, [], ◌∷◌, map, if◌then◌else◌}
use Rattle.std.specs.Fmt.{decimal}
use Rattle.std.specs.List.{join_with_byte}
use Rattle.ip_text.specs.declared.write.Style.{Style}
use Rattle.ip_text.specs.declared.write.Style.TheVariants.{Pairs, Numbers}
use Rattle.ip_text.specs.Printed.{pair_text}

-- an octet in either style
abbrev pub octet_text : Style → ℕ → List ℕ
octet_text Pairs = pair_text
octet_text Numbers = decimal

-- the byte between two
abbrev pub joint : Style → ℕ
joint Pairs = 58
joint Numbers = 46

-- a text, behind that byte where one stands before it
abbrev pub behind : ℕ → Bool → List ℕ → List ℕ
behind between follows text = (if follows then between ∷ [] else []) ++ text

-- the texts of values, with that byte between two
abbrev pub row_text : ℕ → (ℕ → List ℕ) → List ℕ → List ℕ
row_text between piece values = join_with_byte between (map piece values)
