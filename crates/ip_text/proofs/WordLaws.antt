-- What is printed is one word.
use Rattle.std.proofs.Common.{◌≡◌, ◌≢◌, ◌<◌, ◌≤◌, ◌+◌, ◌^◌, ◌/◌, ◌%◌, ℕ, List, [], ◌∷◌, ◌++◌, length, Option, Some, None, refl, sym, ap, subst, ◌∙◌, inl, arith}
use Rattle.std.specs.List.{AllByRecursion}
use Rattle.std.specs.Fmt.{decimal}
use Rattle.std.specs.Prelude.{option_map, option_and_then, ◌==◌, if◌then◌else◌}
use Rattle.std.specs.Option.{option_or}
use Rattle.net_types.specs.declared.ip.Ip.{Ip}
use Rattle.net_types.specs.declared.ip.Ip.TheVariants.{V4, V6}
use Rattle.net_types.specs.declared.hop.Hop.{Hop}
use Rattle.net_types.specs.Address.{ip_width}
use Rattle.net_types.specs.Cidr.{Cidr}
use Rattle.net_types.specs.Prefix.{IsAddr as IsAddrValue, IsPrefix as IsPrefixValue, host_bits}
use Rattle.ip_text.specs.Numerals.{Joined, IsHex, IsNumber, in_base}
use Rattle.ip_text.specs.AddressText.{IsHopBy}
use Rattle.ip_text.specs.Printed.{ip_text, addr_text, prefix_text, mac_text, intf_text, hop_text}
use Rattle.ip_text.specs.RoundTrip.{IsIpValue, IsIntfIfAny, IsHopValue, IsWordOf}
use Rattle.ip_text.specs.Values.{ip_of, prefix_of, addr_of, mac_of, hop_of, number_of, quad_of, row_of, all_of, words_of, ipv6_of, ipv6_by, gap_of, groups_of, last_of, group_of, hex_of, eight_of, cut_at, hop_by, hop_to}
use Rattle.ip_text.proofs.ScanLaws.{Lacks}
use Rattle.ip_text.proofs.Numbers.{number_lacks}
use Rattle.ip_text.proofs.PartLaws.{hex_lacks}
use Rattle.ip_text.proofs.GroupLaws.{lacks_append}
use Rattle.ip_text.proofs.ColonLaws.{IsOutside, ip_lacks}
use Rattle.ip_text.proofs.PrintLaws.{ip_is, addr_is, mac_is, hop_is_bare, hop_is_by}
use Rattle.ip_text.proofs.IpValues.{ip_computes, prefix_computes, addr_computes, mac_computes, hop_computes}

-- No text has a space.

-- a byte past the space is another one
past_space : (b : ℕ) → 32 < b → b ≡ 32 → ⊥
past_space b past e = omega (arith, past, e)

space : IsOutside 32
space = record { no_hex = refl; no_digit = inl (omega arith); no_point = λ e. absurd (omega arith); no_colon = λ e. absurd (omega arith) }

solid : (text : List ℕ) → Lacks 32 text → AllByRecursion (λ b. b ≢ 32) text
solid [] lacks = tt
solid (b ∷ bs) lacks = (lacks.0, solid bs lacks.1)

pairs_lack : (parts text : List ℕ) → Joined (IsHex 2 2) 58 parts text → Lacks 32 text
pairs_lack [] text joined = subst (λ (l : List ℕ). Lacks 32 l) (sym joined) tt
pairs_lack (x ∷ []) text joined = hex_lacks 32 text refl joined.digits
pairs_lack (x ∷ y ∷ zs) text joined =
    subst (λ (l : List ℕ). Lacks 32 l) (sym joined.4) (lacks_append 32 joined.0 (58 ∷ joined.1) (hex_lacks 32 joined.0 refl joined.2.digits) (past_space 58 (omega arith), pairs_lack (y ∷ zs) joined.1 joined.3))

number_solid : (low high n : ℕ) → high < 2 ^ 59 → low ≤ n → n ≤ high → Lacks 32 (decimal n)
number_solid low high n small enough within = let is : IsNumber low high n (decimal n) = record { enough = enough; within = within; spelled = refl } in number_lacks low high 32 n (decimal n) small (inl (omega arith)) is

width_small : (ip : Ip) → ip_width ip < 2 ^ 59
width_small (V4 n) = omega arith
width_small (V6 n) = omega arith

addr_solid : (addr : Cidr) → IsIpValue addr.ip → IsAddrValue addr → Lacks 32 (addr_text addr)
addr_solid addr value le =
    lacks_append 32 (ip_text addr.ip) (47 ∷ decimal addr.len) (ip_lacks 32 space addr.ip (ip_text addr.ip) (ip_is addr.ip value)) (past_space 47 (omega arith), number_solid 0 (ip_width addr.ip) addr.len (width_small addr.ip) (omega arith) le)

intf_solid : (intf : Option ℕ) → IsIntfIfAny intf → Lacks 32 (intf_text intf)
intf_solid None value = tt
intf_solid (Some intf) value = (past_space 64 (omega arith), number_solid 1 4294967295 intf (omega arith) value.0 value.1)

-- No text is empty.

abbrev quad_by : Option ℕ → Option ℕ
quad_by o = option_and_then (λ parts. if length parts == 4 then Some (in_base 256 0 parts) else None) (option_and_then (λ value. option_map (λ values. value ∷ values) (Some [])) o)

no_quad_by : (o : Option ℕ) → quad_by o ≡ None
no_quad_by None = refl
no_quad_by (Some n) = refl

no_quad : quad_of [] ≡ None
unfolding quad_of row_of all_of words_of
no_quad = no_quad_by (number_of 0 255 [])

no_ip : ip_of [] ≡ None
unfolding ip_of ipv6_of ipv6_by gap_of groups_of words_of last_of group_of hex_of
no_ip = ap (λ (o : Option ℕ). option_or (option_map V4 o) (option_map V6 (option_and_then eight_of (option_or None (option_map (λ quad. (quad / 65536) ∷ (quad % 65536) ∷ []) o))))) no_quad

no_mac : mac_of [] ≡ None
unfolding mac_of row_of all_of words_of hex_of
no_mac = refl

no_addr : addr_of [] ≡ None
unfolding addr_of cut_at
no_addr = refl

no_prefix : prefix_of [] ≡ None
unfolding prefix_of
no_prefix = ap (option_and_then (λ addr. if host_bits addr == 0 then Some addr else None)) no_addr

no_hop : hop_of [] ≡ None
unfolding hop_of hop_by cut_at
no_hop = ap (option_map (λ ip. hop_to ip None)) no_ip

some_text : {A : Type 0} (value_of : List ℕ → Option A) (value : A) (text : List ℕ) → value_of [] ≡ None → value_of text ≡ Some value → 0 < length text
some_text {A} value_of value [] none is = let no : None ≡ Some value = sym none ∙ is in absurd cc
some_text value_of value (b ∷ bs) none is = omega arith

word : {A : Type 0} (value_of : List ℕ → Option A) (value : A) (text : List ℕ) → value_of [] ≡ None → value_of text ≡ Some value → Lacks 32 text → IsWordOf value_of value text
word value_of value text none is lacks = record { spells = is; some = some_text value_of value text none is; solid = solid text lacks }

-- The forms.

pub ip_word : (ip : Ip) → IsIpValue ip → IsWordOf ip_of ip (ip_text ip)
ip_word ip value = word ip_of ip (ip_text ip) no_ip (ip_computes.found ip (ip_text ip) (ip_is ip value)) (ip_lacks 32 space ip (ip_text ip) (ip_is ip value))

pub addr_word : (addr : Cidr) → IsIpValue addr.ip → IsAddrValue addr → IsWordOf addr_of addr (addr_text addr)
addr_word addr value le = word addr_of addr (addr_text addr) no_addr (addr_computes.found addr (addr_text addr) (addr_is addr value le)) (addr_solid addr value le)

pub prefix_word : (prefix : Cidr) → IsIpValue prefix.ip → IsPrefixValue prefix → IsWordOf prefix_of prefix (prefix_text prefix)
prefix_word prefix value is = word prefix_of prefix (prefix_text prefix) no_prefix (prefix_computes.found prefix (prefix_text prefix) (addr_is prefix value is.0, is.1)) (addr_solid prefix value is.0)

pub mac_word : (mac : ℕ) → mac < 2 ^ 48 → IsWordOf mac_of mac (mac_text mac)
mac_word mac small = let is = mac_is mac small in word mac_of mac (mac_text mac) no_mac (mac_computes.found mac (mac_text mac) is) (pairs_lack is.parts (mac_text mac) is.joined)

hop_is : (ip : Ip) (intf : Option ℕ) → IsIpValue ip → IsIntfIfAny intf → IsHopBy ip intf (ip_text ip ++ intf_text intf)
hop_is ip None value by = hop_is_bare ip value
hop_is ip (Some intf) value by = hop_is_by ip intf value by.0 by.1

pub hop_word : (hop : Hop) → IsHopValue hop → IsWordOf hop_of hop (hop_text hop)
hop_word hop value =
    word hop_of hop (hop_text hop) no_hop (hop_computes.found hop (hop_text hop) (hop_is hop.ip hop.intf value.0 value.1))
    (lacks_append 32 (ip_text hop.ip) (intf_text hop.intf) (ip_lacks 32 space hop.ip (ip_text hop.ip) (ip_is hop.ip value.0)) (intf_solid hop.intf value.1))
