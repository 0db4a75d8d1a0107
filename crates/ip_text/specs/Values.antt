-- Each form as a function of the text: the value that it spells, where it spells one.
use Rattle.std.specs.Prelude.{◌≡◌, ◌+◌, ◌-◌, ◌/◌, ◌%◌, ◌==◌, ◌&&◌, nat_le, bytes_eq, replicate, ℕ, Option, None, Some, List, [], ◌∷◌, ◌++◌, length, option_map, option_and_then, if◌then◌else◌}
use Rattle.std.specs.Fmt.{decimal}
use Rattle.std.specs.List.{slice_split}
use Rattle.std.specs.Option.{option_or}
use Rattle.std.specs.Str.Parse.{digits_value}
use Rattle.net_types.specs.declared.ip.Ip.{Ip}
use Rattle.net_types.specs.declared.ip.Ip.TheVariants.{V4, V6}
use Rattle.net_types.specs.declared.hop.Hop.{Hop}
use Rattle.net_types.specs.Address.{ip_width}
use Rattle.net_types.specs.Cidr.{Cidr}
use Rattle.net_types.specs.Prefix.{host_bits}
use Rattle.ip_text.specs.Numerals.{all_hex, hex_on, in_base}

-- the function gives a value exactly where the form spells it
pub record Computes {A : Type 0} (Is : A → List ℕ → Type 0) (value_of : List ℕ → Option A) : Type 0 where
  pub spells : (a : A) (text : List ℕ) → value_of text ≡ Some a → Is a text
  pub found : (a : A) (text : List ℕ) → Is a text → value_of text ≡ Some a

-- a word that is the decimal of its value, from low to high
unfoldable pub number_of : ℕ → ℕ → List ℕ → Option ℕ
number_of low high word =
    let value = digits_value 10 word in
    if bytes_eq word (decimal value) && (nat_le low value && nat_le value high) then Some value else None

-- from low to high hexadecimal digits, in number
unfoldable pub hex_of : ℕ → ℕ → List ℕ → Option ℕ
hex_of low high word =
    if all_hex word && (nat_le low (length word) && nat_le (length word) high) then Some (hex_on 0 word) else None

-- the values of all words, where each has one
unfoldable pub all_of : (List ℕ → Option ℕ) → List (List ℕ) → Option (List ℕ)
all_of value_of [] = Some []
all_of value_of (word ∷ words) = option_and_then (λ value. option_map (λ values. value ∷ values) (all_of value_of words)) (value_of word)

-- the words between the separators
unfoldable pub words_of : ℕ → List ℕ → List (List ℕ)
words_of separator text = slice_split (λ b. b == separator) text

-- so many values with a separator between two, as digits of a number
unfoldable pub row_of : (List ℕ → Option ℕ) → ℕ → ℕ → ℕ → List ℕ → Option ℕ
row_of value_of separator base count text =
    option_and_then (λ parts. if length parts == count then Some (in_base base 0 parts) else None) (all_of value_of (words_of separator text))

-- a dotted quad
unfoldable pub quad_of : List ℕ → Option ℕ
quad_of = row_of (number_of 0 255) 46 256 4

-- one to four hexadecimal digits
unfoldable pub group_of : List ℕ → Option ℕ
group_of = hex_of 1 4

-- one group, or two as a dotted quad
unfoldable pub last_of : List ℕ → Option (List ℕ)
last_of word = option_or (option_map (λ group. group ∷ []) (group_of word)) (option_map (λ quad. (quad / 65536) ∷ (quad % 65536) ∷ []) (quad_of word))

-- the groups of words, the last word perhaps a dotted quad
unfoldable pub groups_of : List (List ℕ) → Option (List ℕ)
groups_of [] = None
groups_of (word ∷ []) = last_of word
groups_of (word ∷ next ∷ words) = option_and_then (λ group. option_map (λ groups. group ∷ groups) (groups_of (next ∷ words))) (group_of word)

-- what stands before the first two colons, and behind them
unfoldable pub gap_of : List ℕ → Option (List ℕ × List ℕ)
gap_of [] = None
gap_of (b ∷ []) = None
gap_of (b ∷ c ∷ text) = if (b == 58) && (c == 58) then Some ([], text) else option_map (λ gap. (b ∷ gap.0, gap.1)) (gap_of (c ∷ text))

-- the groups before the colons, where there may be none
unfoldable pub left_of : List ℕ → Option (List ℕ)
left_of [] = Some []
left_of (b ∷ text) = all_of group_of (words_of 58 (b ∷ text))

-- the groups behind the colons, the last two perhaps as a dotted quad
unfoldable pub right_of : List ℕ → Option (List ℕ)
right_of [] = Some []
right_of (b ∷ text) = groups_of (words_of 58 (b ∷ text))

-- eight groups
unfoldable pub eight_of : List ℕ → Option ℕ
eight_of groups = if length groups == 8 then Some (in_base 65536 0 groups) else None

-- zero groups between the two, one at least
unfoldable pub filled_of : List ℕ → List ℕ → Option ℕ
filled_of left right =
    if nat_le (length left + length right) 7 then eight_of (left ++ (replicate (8 - (length left + length right)) 0 ++ right)) else None

-- groups on both sides of the two colons
unfoldable pub compressed_of : List ℕ → List ℕ → Option ℕ
compressed_of before behind = option_and_then (λ left. option_and_then (λ right. filled_of left right) (right_of behind)) (left_of before)

-- written out, or with two colons
unfoldable pub ipv6_by : List ℕ → Option (List ℕ × List ℕ) → Option ℕ
ipv6_by text None = option_and_then eight_of (groups_of (words_of 58 text))
ipv6_by text (Some gap) = compressed_of gap.0 gap.1

-- an IPv6 address
unfoldable pub ipv6_of : List ℕ → Option ℕ
ipv6_of text = ipv6_by text (gap_of text)

-- the IP address that the text spells
unfoldable pub ip_of : List ℕ → Option Ip
ip_of text = option_or (option_map V4 (quad_of text)) (option_map V6 (ipv6_of text))

-- what stands before the first such byte, and behind it
unfoldable pub cut_at : ℕ → List ℕ → Option (List ℕ × List ℕ)
cut_at separator [] = None
cut_at separator (b ∷ text) = if b == separator then Some ([], text) else option_map (λ cut. (b ∷ cut.0, cut.1)) (cut_at separator text)

-- an ip and a length
abbrev pub cidr_of : Ip → ℕ → Cidr
cidr_of ip len = record { ip = ip; len = len }

-- the address of an interface that the text spells
unfoldable pub addr_of : List ℕ → Option Cidr
addr_of text = option_and_then (λ cut. option_and_then (λ ip. option_map (cidr_of ip) (number_of 0 (ip_width ip) cut.1)) (ip_of cut.0)) (cut_at 47 text)

-- the prefix that the text spells
unfoldable pub prefix_of : List ℕ → Option Cidr
prefix_of text = option_and_then (λ addr. if host_bits addr == 0 then Some addr else None) (addr_of text)

-- the MAC address that the text spells
unfoldable pub mac_of : List ℕ → Option ℕ
mac_of = row_of (hex_of 2 2) 58 256 6

-- an ip and perhaps an interface
abbrev pub hop_to : Ip → Option ℕ → Hop
hop_to ip intf = record { ip = ip; intf = intf }

-- without an at sign, or with one
unfoldable pub hop_by : List ℕ → Option (List ℕ × List ℕ) → Option Hop
hop_by text None = option_map (λ ip. hop_to ip None) (ip_of text)
hop_by text (Some cut) = option_and_then (λ ip. option_map (λ intf. hop_to ip (Some intf)) (number_of 1 4294967295 cut.1)) (ip_of cut.0)

-- the next hop that the text spells
unfoldable pub hop_of : List ℕ → Option Hop
hop_of text = hop_by text (cut_at 64 text)
