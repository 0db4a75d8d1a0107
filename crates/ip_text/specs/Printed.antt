-- The printed form of addresses: of IPv6 as RFC 5952, section 4, has it.
use Rattle.std.specs.Prelude.{◌+◌, ◌/◌, ◌%◌, ◌^◌, ◌==◌, nat_lt, nat_le, ℕ, zero, suc, false, List, [], ◌∷◌, ◌++◌, map, take, drop, Option, None, Some, if◌then◌else◌}
use Rattle.std.specs.Fmt.{decimal, digits, digit_glyph}
use Rattle.std.specs.List.{join_with_byte}
use Rattle.net_types.specs.declared.ip.Ip.{Ip}
use Rattle.net_types.specs.declared.ip.Ip.TheVariants.{V4, V6}
use Rattle.net_types.specs.declared.hop.Hop.{Hop}
use Rattle.net_types.specs.Cidr.{Cidr}

-- so many digits of a number in a base, the highest first
abbrev pub places : ℕ → ℕ → ℕ → List ℕ
places base zero number = []
places base (suc count) number = (number / base ^ count % base) ∷ places base count number

-- how many zero groups stand at the front
abbrev pub zeros_before : List ℕ → ℕ
zeros_before [] = 0
zeros_before (g ∷ gs) = if g == 0 then 1 + zeros_before gs else 0

-- where a run of zero groups begins, and how long it is
pub record Run : Type 0 where
  pub start : ℕ
  pub count : ℕ

-- the longest run of zero groups, the first of equally long ones (section 4.2.3)
abbrev pub longest_run : List ℕ → Run
longest_run [] = record { start = 0; count = 0 }
longest_run (g ∷ gs) =
    let later = longest_run gs in
    let here = zeros_before (g ∷ gs) in
    if nat_le later.count here then record { start = 0; count = here } else record { start = later.start + 1; count = later.count }

-- a group in lower case, without zeros before it (sections 4.1 and 4.3)
abbrev pub group_text : ℕ → List ℕ
group_text group = digits 16 false group

-- groups with a colon between two
abbrev pub groups_text : List ℕ → List ℕ
groups_text groups = join_with_byte 58 (map group_text groups)

-- two colons in place of the longest run, where it has two groups or more (section 4.2)
abbrev pub compressed_text : List ℕ → Run → List ℕ
compressed_text groups run =
    if nat_lt run.count 2 then groups_text groups
    else groups_text (take run.start groups) ++ 58 ∷ 58 ∷ groups_text (drop (run.start + run.count) groups)

-- four decimal numbers with a point between two, or eight groups
abbrev pub ip_text : Ip → List ℕ
ip_text (V4 n) = join_with_byte 46 (map decimal (places 256 4 n))
ip_text (V6 n) = let groups = places 65536 8 n in compressed_text groups (longest_run groups)

-- the ip, a slash and the length
abbrev pub addr_text : Cidr → List ℕ
addr_text addr = ip_text addr.ip ++ 47 ∷ decimal addr.len

-- a prefix is printed as an address
abbrev pub prefix_text : Cidr → List ℕ
prefix_text = addr_text

-- an octet as two digits in lower case
abbrev pub pair_text : ℕ → List ℕ
pair_text octet = digit_glyph false (octet / 16) ∷ digit_glyph false (octet % 16) ∷ []

-- six octets with a colon between two
abbrev pub mac_text : ℕ → List ℕ
mac_text mac = join_with_byte 58 (map pair_text (places 256 6 mac))

-- nothing, or an at sign and the interface
abbrev pub intf_text : Option ℕ → List ℕ
intf_text None = []
intf_text (Some intf) = 64 ∷ decimal intf

-- the ip, and the interface where there is one
abbrev pub hop_text : Hop → List ℕ
hop_text hop = ip_text hop.ip ++ intf_text hop.intf
