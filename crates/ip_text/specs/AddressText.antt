-- The texts of addresses: which bytes spell which value.
use Rattle.std.specs.Prelude.{◌≡◌, ℕ, Option, None, Some, List, ◌∷◌, ◌++◌}
use Rattle.net_types.specs.declared.ip.Ip.{Ip}
use Rattle.net_types.specs.declared.ip.Ip.TheVariants.{V4, V6}
use Rattle.net_types.specs.declared.hop.Hop.{Hop}
use Rattle.net_types.specs.Address.{ip_width}
use Rattle.net_types.specs.Cidr.{Cidr}
use Rattle.net_types.specs.Prefix.{host_bits}
use Rattle.ip_text.specs.Numerals.{IsHex, IsNumber, IsRow}
use Rattle.ip_text.specs.Ipv4.{IsQuad}
use Rattle.ip_text.specs.Ipv6.{IsIpv6}

-- an IP address, as in `10.0.0.1` or `fe80::1`
abbrev pub IsIp : Ip → List ℕ → Type 0
IsIp (V4 n) text = IsQuad n text
IsIp (V6 n) text = IsIpv6 n text

-- an address of an interface, as in `10.0.0.1/24`: an ip, a slash, and a length within its width
pub record IsAddr (addr : Cidr) (text : List ℕ) : Type 0 where
  pub ip : List ℕ
  pub len : List ℕ
  pub is_ip : IsIp addr.ip ip
  pub is_len : IsNumber 0 (ip_width addr.ip) addr.len len
  pub whole : text ≡ ip ++ 47 ∷ len

-- a prefix, as in `10.0.0.0/24`: such a text, with no bit set past the length
abbrev pub IsPrefix : Cidr → List ℕ → Type 0
IsPrefix prefix text = IsAddr prefix text × (host_bits prefix ≡ 0)

-- a MAC address, as in `02:00:00:00:00:0a`: six pairs of hexadecimal digits, with a colon between two
abbrev pub IsMac : ℕ → List ℕ → Type 0
IsMac mac text = IsRow (IsHex 2 2) 58 256 6 mac text

-- an ip, an at sign, and the number of an interface, as in `fe80::1@7`
pub record IsIpAtIntf (ip : Ip) (intf : ℕ) (text : List ℕ) : Type 0 where
  pub front : List ℕ
  pub back : List ℕ
  pub is_ip : IsIp ip front
  pub is_intf : IsNumber 1 4294967295 intf back
  pub whole : text ≡ front ++ 64 ∷ back

-- a next hop: an ip, with or without an interface
abbrev pub IsHopBy : Ip → Option ℕ → List ℕ → Type 0
IsHopBy ip None text = IsIp ip text
IsHopBy ip (Some intf) text = IsIpAtIntf ip intf text

-- a next hop, as in `10.0.0.1` or `fe80::1@7`
abbrev pub IsHop : Hop → List ℕ → Type 0
IsHop hop text = IsHopBy hop.ip hop.intf text
