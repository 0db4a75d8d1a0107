-- The texts of an IPv4 address, as in `10.0.0.1`.
use Rattle.std.specs.Prelude.{ℕ, List}
use Rattle.ip_text.specs.Numerals.{IsNumber, IsRow}

-- a dotted quad: four numbers up to 255, with a point between two
abbrev pub IsQuad : ℕ → List ℕ → Type 0
IsQuad value text = IsRow (IsNumber 0 255) 46 256 4 value text
