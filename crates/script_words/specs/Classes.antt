-- Classes of words, each read by a function that gives a value exactly where the word spells it.
use Rattle.std.proofs.Common.{◌≡◌, ◌≤◌, ◌<◌, ◌^◌, ℕ, List, true, Option, Some, None, refl, sym, ap, subst, ◌∙◌, arith, codes}
use Rattle.std.specs.Fmt.{decimal}
use Rattle.std.proofs.lemmas.Bool.{and_parts, leb-true, le-leb}
use Rattle.std.proofs.lemmas.Option.{cond_some}
use Rattle.std.proofs.lemmas.Fmt.{decimal_digit}
use Rattle.std.specs.Prelude.{[], ◌∷◌, ◌==◌, ◌&&◌, bytes_eq, length, option_map, option_and_then, if◌then◌else◌}
use Rattle.std.specs.Option.{option_or}
use Rattle.net_types.specs.declared.ip.Ip.{Ip}
use Rattle.net_types.specs.declared.ip.Ip.TheVariants.{V4, V6}
use Rattle.net_types.specs.declared.client.Client.TheVariants.{Static}
use Rattle.net_types.specs.Address.{ip_width}
use Rattle.net_types.specs.Prefix.{host_bits}
use Rattle.ip_text.specs.Numerals.{in_base}
use Rattle.net_types.specs.Cidr.{Cidr}
use Rattle.net_types.specs.Names.{is_vlan_name, is_name}
use Rattle.ip_text.specs.Values.{ip_of, prefix_of, addr_of, mac_of, hop_of, number_of as decimal_of, hex_of, all_of, words_of, row_of, quad_of, ipv6_of, cut_at, cidr_of, hop_to, hop_by}
use Rattle.script_words.specs.Grammar.{Token, number, vlan_name, name, ip, addr, prefix, mac, hop, client, client_of, vlan, port, intf, vrf, IsBetween, Spells}
use Rattle.script_words.specs.Reading.{read_on, number_of, vlan_name_of, name_of}
use Rattle.script_words.specs.NumberLaws.{numeral_is, decimal_is, decimal_value}

-- the function gives a value exactly where the word spells the value's token, and gives one somewhere
pub record IsClass {B : Type 0} (of : List ℕ → Option B) (token : B → Token) : Type 0 where
  pub takes : (w : List ℕ) (b : B) → of w ≡ Some b → Spells (token b) w
  pub again : (w : List ℕ) (b : B) → Spells (token b) w → of w ≡ Some b
  pub some : (w : List ℕ) × (b : B) × (of w ≡ Some b)

number_takes : (low high : ℕ) (word : List ℕ) (n : ℕ) → high < 2 ^ 59 → number_of low high word ≡ Some n → IsBetween low high n × (word ≡ decimal n)
unfolding number_of
number_takes low high word n small e =
    let test = cond_some _ (read_on 0 word) n e in
    let parts = and_parts _ _ test.0 in
    let range = and_parts _ _ parts.1 in
    let below : read_on 0 word ≤ high = leb-true _ _ range.1 in
    subst (λ k. IsBetween low high k × (word ≡ decimal k)) test.1 ((leb-true _ _ range.0, below), numeral_is word parts.0 (omega arith))

number_decimal : (low high n : ℕ) → high < 2 ^ 59 → IsBetween low high n → number_of low high (decimal n) ≡ Some n
unfolding number_of
number_decimal low high n small range =
    let fits : n < 2 ^ 64 = omega arith in
    let v = decimal_value n fits in
    rw (decimal_is n fits, decimal_value n fits, le-leb low n range.0, le-leb n high range.1) refl

number_again : (low high n : ℕ) (word : List ℕ) → high < 2 ^ 59 → Spells (number low high n) word → number_of low high word ≡ Some n
number_again low high n word small is = ap (number_of low high) is.1 ∙ number_decimal low high n small is.0

pub number_class : (low high : ℕ) → high < 2 ^ 59 → low ≤ high → IsClass (number_of low high) (λ n. number low high n)
number_class low high small fits = record {
  takes = λ w n e. number_takes low high w n small e;
  again = λ w n is. number_again low high n w small is;
  some = (decimal low, low, number_again low high low (decimal low) small ((omega arith, fits), refl));
}

pub vlan_class : IsClass (number_of 1 4094) vlan
vlan_class = number_class 1 4094 (omega arith) (omega arith)

pub port_class : IsClass (number_of 1 1024) port
port_class = number_class 1 1024 (omega arith) (omega arith)

pub intf_class : IsClass (number_of 1 4294967295) intf
intf_class = number_class 1 4294967295 (omega arith) (omega arith)

pub vrf_class : IsClass (number_of 0 65535) vrf
vrf_class = number_class 0 65535 (omega arith) (omega arith)

pub vlan_name_class : IsClass vlan_name_of vlan_name
unfolding vlan_name_of
vlan_name_class = record {
  takes = λ w n e. let t = cond_some (is_vlan_name w) w n e in (ap is_vlan_name (sym t.1) ∙ t.0, t.1);
  again = λ w n is. let same : w ≡ n = is.1 in rw (same, is.0) refl;
  some = (codes "a", codes "a", refl);
}

pub name_class : IsClass name_of name
unfolding name_of
name_class = record {
  takes = λ w n e. let t = cond_some (is_name w) w n e in (ap is_name (sym t.1) ∙ t.0, t.1);
  again = λ w n is. let same : w ≡ n = is.1 in rw (same, is.0) refl;
  some = (codes "a", codes "a", refl);
}

decimal_zero : decimal 0 ≡ codes "0"
decimal_zero = decimal_digit 0 (omega arith)

zero_quad : decimal_of 0 255 (codes "0") ≡ Some 0
unfolding decimal_of
zero_quad = ap (λ (d : List ℕ). if bytes_eq (codes "0") d && true then Some 0 else None) decimal_zero

zero_len : decimal_of 0 32 (codes "0") ≡ Some 0
unfolding decimal_of
zero_len = ap (λ (d : List ℕ). if bytes_eq (codes "0") d && true then Some 0 else None) decimal_zero

abbrev onto : Option ℕ → Option (List ℕ) → Option (List ℕ)
onto o rest = option_and_then (λ value. option_map (λ values. value ∷ values) rest) o

some_row : (value_of : List ℕ → Option ℕ) → value_of (codes "0") ≡ Some 0 → row_of value_of 46 256 4 (codes "0.0.0.0") ≡ Some 0
unfolding row_of all_of words_of
some_row value_of e = ap (λ (o : Option ℕ). option_and_then (λ parts. if length parts == 4 then Some (in_base 256 0 parts) else None) (onto o (onto o (onto o (onto o (Some [])))))) e

some_quad : quad_of (codes "0.0.0.0") ≡ Some 0
unfolding quad_of
some_quad = some_row (decimal_of 0 255) zero_quad

some_ip : ip_of (codes "0.0.0.0") ≡ Some (V4 0)
unfolding ip_of
some_ip = ap (λ (o : Option ℕ). option_or (option_map V4 o) (option_map V6 (ipv6_of (codes "0.0.0.0")))) some_quad

pub ip_class : IsClass ip_of ip
ip_class = record { takes = λ w a e. e; again = λ w a e. e; some = (codes "0.0.0.0", V4 0, some_ip) }

some_addr : addr_of (codes "0.0.0.0/0") ≡ Some (cidr_of (V4 0) 0)
unfolding addr_of cut_at
some_addr = ap (λ (o : Option Ip). option_and_then (λ ip. option_map (cidr_of ip) (decimal_of 0 (ip_width ip) (codes "0"))) o) some_ip ∙ ap (λ (o : Option ℕ). option_map (cidr_of (V4 0)) o) zero_len

pub addr_class : IsClass addr_of addr
addr_class = record { takes = λ w a e. e; again = λ w a e. e; some = (codes "0.0.0.0/0", cidr_of (V4 0) 0, some_addr) }

some_prefix : prefix_of (codes "0.0.0.0/0") ≡ Some (cidr_of (V4 0) 0)
unfolding prefix_of
some_prefix = ap (λ (o : Option Cidr). option_and_then (λ addr. if host_bits addr == 0 then Some addr else None) o) some_addr

pub prefix_class : IsClass prefix_of prefix
prefix_class = record { takes = λ w a e. e; again = λ w a e. e; some = (codes "0.0.0.0/0", cidr_of (V4 0) 0, some_prefix) }

some_mac : mac_of (codes "00:00:00:00:00:00") ≡ Some 0
unfolding mac_of row_of all_of words_of hex_of
some_mac = refl

pub mac_class : IsClass mac_of mac
mac_class = record { takes = λ w a e. e; again = λ w a e. e; some = (codes "00:00:00:00:00:00", 0, some_mac) }

some_hop : hop_of (codes "0.0.0.0") ≡ Some (hop_to (V4 0) None)
unfolding hop_of hop_by cut_at
some_hop = ap (λ (o : Option Ip). option_map (λ ip. hop_to ip None) o) some_ip

pub hop_class : IsClass hop_of hop
hop_class = record { takes = λ w a e. e; again = λ w a e. e; some = (codes "0.0.0.0", hop_to (V4 0) None, some_hop) }

pub client_class : IsClass client_of client
unfolding client_of
client_class = record { takes = λ w a e. e; again = λ w a e. e; some = (codes "static", Static, refl) }
