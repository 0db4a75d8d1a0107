-- What stands in a row.
use Rattle.std.specs.Prelude.{ℕ, List}
use Rattle.ip_text.specs.declared.rows.Part.{Part}
use Rattle.ip_text.specs.declared.rows.Part.TheVariants.{Pair, Octet}
use Rattle.ip_text.specs.Numerals.{IsHex, IsNumber}

-- two digits of a MAC address, or a number of a dotted quad
abbrev pub IsPart : Part → ℕ → List ℕ → Type 0
IsPart Pair = IsHex 2 2
IsPart Octet = IsNumber 0 255

-- the byte between two
abbrev pub between : Part → ℕ
between Pair = 58
between Octet = 46
