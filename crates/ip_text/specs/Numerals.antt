-- Numbers as their digits spell them, and values in a row.
use Rattle.std.specs.Prelude.{◌≡◌, ◌≤◌, ◌+◌, ◌*◌, ◌-◌, ◌&&◌, ◌||◌, nat_le, ℕ, Bool, true, List, [], ◌∷◌, ◌++◌, length, if◌then◌else◌}
use Rattle.std.specs.Fmt.{decimal}

-- a number from low to high, in decimal digits with no zero before them
pub record IsNumber (low high value : ℕ) (text : List ℕ) : Type 0 where
  pub enough : low ≤ value
  pub within : value ≤ high
  pub spelled : text ≡ decimal value

-- a hexadecimal digit of either case
abbrev pub is_hex : ℕ → Bool
is_hex c = (nat_le 48 c && nat_le c 57) || ((nat_le 97 c && nat_le c 102) || (nat_le 65 c && nat_le c 70))

-- the value of such a digit
abbrev pub hex : ℕ → ℕ
hex c = if nat_le c 57 then c - 48 else if nat_le c 70 then c - 55 else c - 87

-- each byte is such a digit
abbrev pub all_hex : List ℕ → Bool
all_hex [] = true
all_hex (c ∷ cs) = is_hex c && all_hex cs

-- the value of digits behind those of a number
abbrev pub hex_on : ℕ → List ℕ → ℕ
hex_on n [] = n
hex_on n (c ∷ cs) = hex_on (16 * n + hex c) cs

-- from low to high hexadecimal digits, in number
pub record IsHex (low high value : ℕ) (text : List ℕ) : Type 0 where
  pub enough : low ≤ length text
  pub short : length text ≤ high
  pub digits : all_hex text ≡ true
  pub spelled : value ≡ hex_on 0 text

-- the number with these digits in a base, behind a number that stands before them
abbrev pub in_base : ℕ → ℕ → List ℕ → ℕ
in_base base before [] = before
in_base base before (d ∷ ds) = in_base base (base * before + d) ds

-- values spelled one after another, with a byte between two
abbrev pub Joined : (ℕ → List ℕ → Type 0) → ℕ → List ℕ → List ℕ → Type 0
Joined Is between [] text = text ≡ []
Joined Is between (v ∷ []) text = Is v text
Joined Is between (v ∷ w ∷ vs) text = (u : List ℕ) × (rest : List ℕ) × Is v u × Joined Is between (w ∷ vs) rest × (text ≡ u ++ between ∷ rest)

-- so many values joined, which are the digits of the number in a base
pub record IsRow (Is : ℕ → List ℕ → Type 0) (between base count value : ℕ) (text : List ℕ) : Type 0 where
  pub parts : List ℕ
  pub number : length parts ≡ count
  pub joined : Joined Is between parts text
  pub spelled : value ≡ in_base base 0 parts
