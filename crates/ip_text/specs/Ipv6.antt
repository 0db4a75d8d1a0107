-- The texts of an IPv6 address (RFC 4291, section 2.2), as in `fe80::1` or `::ffff:10.0.0.1`.
use Rattle.std.specs.Prelude.{◌⊎◌, replicate, ◌≡◌, ◌<◌, ◌+◌, ◌*◌, ℕ, List, [], ◌∷◌, ◌++◌, length}
use Rattle.ip_text.specs.Numerals.{IsHex, Joined, in_base}
use Rattle.ip_text.specs.Ipv4.{IsQuad}

-- a group of 16 bits: one to four hexadecimal digits
abbrev pub IsGroup : ℕ → List ℕ → Type 0
IsGroup value text = IsHex 1 4 value text

-- groups with a colon between two, where a dotted quad may stand for the last two
abbrev pub Groups : List ℕ → List ℕ → Type 0
Groups [] text = text ≡ []
Groups (g ∷ []) text = IsGroup g text
Groups (g ∷ h ∷ gs) text = ((u : List ℕ) × (rest : List ℕ) × IsGroup g u × Groups (h ∷ gs) rest × (text ≡ u ++ 58 ∷ rest)) ⊎ ((gs ≡ []) × (h < 65536) × IsQuad (65536 * g + h) text)

-- the same, with two colons in place of one zero group or more
pub record Compressed (groups text : List ℕ) : Type 0 where
  pub left : List ℕ
  pub zeros : ℕ
  pub right : List ℕ
  pub before : List ℕ
  pub behind : List ℕ
  pub whole : groups ≡ left ++ (replicate (zeros + 1) 0 ++ right)
  pub joined : Joined IsGroup 58 left before
  pub rest : Groups right behind
  pub spelled : text ≡ before ++ 58 ∷ 58 ∷ behind

-- eight groups, written out or compressed
pub record IsIpv6 (value : ℕ) (text : List ℕ) : Type 0 where
  pub groups : List ℕ
  pub eight : length groups ≡ 8
  pub number : value ≡ in_base 65536 0 groups
  pub spelled : Groups groups text ⊎ Compressed groups text
