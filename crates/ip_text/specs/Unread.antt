-- Forms of what is left to read behind a front that was read.
use Rattle.std.specs.Prelude.{◌^◌, ◌⊎◌, replicate, ◌≡◌, ◌≤◌, ◌<◌, ◌+◌, ◌*◌, ◌-◌, true, ℕ, List, ◌∷◌, ◌++◌, length}
use Rattle.ip_text.specs.Numerals.{Joined, in_base, all_hex, hex_on}
use Rattle.ip_text.specs.Ipv6.{Groups, Compressed}

-- hexadecimal digits behind those of a number
pub record IsHexOn (low high before value : ℕ) (text : List ℕ) : Type 0 where
  pub enough : low ≤ length text
  pub short : length text ≤ high
  pub digits : all_hex text ≡ true
  pub spelled : value ≡ hex_on before text

-- values of a row behind those of a number
pub record IsRowOn (Is : ℕ → List ℕ → Type 0) (between base count before value : ℕ) (text : List ℕ) : Type 0 where
  pub parts : List ℕ
  pub number : length parts ≡ count
  pub joined : Joined Is between parts text
  pub spelled : value ≡ in_base base before parts

-- at least one group and at most so many, behind a number
pub record IsRight (most before value : ℕ) (text : List ℕ) : Type 0 where
  pub parts : List ℕ
  pub some : 0 < length parts
  pub few : length parts ≤ most
  pub joined : Groups parts text
  pub spelled : value ≡ in_base 65536 before parts

-- groups behind the two colons, perhaps none
pub record IsBehind (most value : ℕ) (text : List ℕ) : Type 0 where
  pub parts : List ℕ
  pub few : length parts ≤ most
  pub joined : Groups parts text
  pub spelled : value ≡ in_base 65536 0 parts

-- the second of the two colons, and what follows it
pub record Colon (groups text : List ℕ) : Type 0 where
  pub zeros : ℕ
  pub right : List ℕ
  pub behind : List ℕ
  pub whole : groups ≡ replicate (zeros + 1) 0 ++ right
  pub rest : Groups right behind
  pub spelled : text ≡ 58 ∷ behind

-- groups, and two colons behind them
pub record Gap (groups text : List ℕ) : Type 0 where
  pub short : Compressed groups text
  pub some : 0 < length short.left

-- so many groups behind a number and a colon
pub record IsLeft (count before value : ℕ) (text : List ℕ) : Type 0 where
  pub parts : List ℕ
  pub number : length parts ≡ count
  pub spelled : value ≡ in_base 65536 before parts
  pub form : Groups parts text ⊎ (Colon parts text ⊎ Gap parts text)

-- what follows the second colon, where so many groups are left
abbrev pub IsHigh : ℕ → ℕ → ℕ → List ℕ → Type 0
IsHigh count before value text = (low : ℕ) × IsBehind (count - 1) low text × (value ≡ before * 65536 ^ count + low)
