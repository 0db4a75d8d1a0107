-- What the words of a line are: keywords, and words of the classes that a switch's values have.
use Rattle.std.specs.Prelude.{◌≡◌, ◌≤◌, ℕ, true, Option, Some, None, List, [], ◌∷◌, codes, if◌then◌else◌}
use Rattle.std.specs.Str.{bytes_eq}
use Rattle.net_types.specs.declared.client.Client.{Client}
use Rattle.net_types.specs.declared.client.Client.TheVariants.{Interface, Static, Openr, Ebgp, Ibgp}
use Rattle.std.specs.Fmt.{decimal}
use Rattle.net_types.specs.declared.ip.Ip.{Ip}
use Rattle.net_types.specs.declared.hop.Hop.{Hop}
use Rattle.net_types.specs.Cidr.{Cidr}
use Rattle.net_types.specs.Names.{is_vlan_name, is_name}
use Rattle.ip_text.specs.Values.{ip_of, prefix_of, addr_of, mac_of, hop_of}

-- one word of a line: a keyword, or a value in one of its texts
pub data Token : Type 0 where
  key : (text : List ℕ) → Token
  number : (low high value : ℕ) → Token
  vlan_name : (text : List ℕ) → Token
  name : (text : List ℕ) → Token
  ip : (value : Ip) → Token
  addr : (value : Cidr) → Token
  prefix : (value : Cidr) → Token
  mac : (value : ℕ) → Token
  hop : (value : Hop) → Token
  client : (value : Client) → Token

-- the client that a word names
unfoldable pub client_of : List ℕ → Option Client
client_of word =
    if bytes_eq word (codes "interface") then Some Interface else if bytes_eq word (codes "static") then Some Static else
    if bytes_eq word (codes "openr") then Some Openr else if bytes_eq word (codes "ebgp") then Some Ebgp else
    if bytes_eq word (codes "ibgp") then Some Ibgp else None

-- from low to high
abbrev pub IsBetween : ℕ → ℕ → ℕ → Type 0
IsBetween low high n = (low ≤ n) × (n ≤ high)

-- a keyword is itself, a number is decimal digits without leading zeros, a name is its bytes, an address is spelled in one of its texts, and a client is named
abbrev pub Spells : Token → List ℕ → Type 0
Spells (key text) word = word ≡ text
Spells (number low high n) word = IsBetween low high n × (word ≡ decimal n)
Spells (vlan_name text) word = (is_vlan_name text ≡ true) × (word ≡ text)
Spells (name text) word = (is_name text ≡ true) × (word ≡ text)
Spells (ip value) word = ip_of word ≡ Some value
Spells (addr value) word = addr_of word ≡ Some value
Spells (prefix value) word = prefix_of word ≡ Some value
Spells (mac value) word = mac_of word ≡ Some value
Spells (hop value) word = hop_of word ≡ Some value
Spells (client value) word = client_of word ≡ Some value

-- each word spells its token
abbrev pub AreWords : List Token → List (List ℕ) → Type 0
AreWords [] [] = Unit {0}
AreWords [] (w ∷ ws) = ⊥
AreWords (t ∷ ts) [] = ⊥
AreWords (t ∷ ts) (w ∷ ws) = Spells t w × AreWords ts ws

-- a VLAN's number
abbrev pub vlan : ℕ → Token
vlan n = number 1 4094 n

-- a port's number
abbrev pub port : ℕ → Token
port n = number 1 1024 n

-- an interface's number
abbrev pub intf : ℕ → Token
intf n = number 1 4294967295 n

-- a VRF's number
abbrev pub vrf : ℕ → Token
vrf n = number 0 65535 n
