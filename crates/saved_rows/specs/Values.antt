-- Numbers, words and printed texts, as a saved text has them.
use Rattle.std.specs.Prelude.{◌≡◌, ◌==◌, ℕ, List, Some, Option, option_map, if◌then◌else◌}
use Rattle.serde_json.specs.Data.{Data, number, string, unsigned}
use Rattle.net_types.specs.declared.client.Client.{Client}
use Rattle.net_types.specs.declared.client.Client.TheVariants.{Interface, Static, Openr, Ebgp, Ibgp}
use Rattle.net_types.specs.declared.hop.Hop.{Hop}
use Rattle.net_types.specs.declared.ip.Ip.{Ip}
use Rattle.net_types.specs.Cidr.{Cidr}
use Rattle.net_types.specs.Clients.{client_number}
use Rattle.net_types.specs.Names.{is_vlan_name}
use Rattle.ip_text.specs.Printed.{addr_text, hop_text, ip_text, mac_text, prefix_text}
use Rattle.ip_text.specs.Values.{addr_of, hop_of, ip_of, mac_of, prefix_of}
use Rattle.json_form.specs.Arrays.{IsWithin, number_of, printed_of, text_of}

-- a number
abbrev pub number_json : ℕ → Data
number_json n = number (unsigned n)

-- a word that is always the same
abbrev pub word_json : List ℕ → Unit {0} → Data
word_json word _ = string word

-- addresses and hops in their printed forms
abbrev pub mac_json : ℕ → Data
mac_json mac = string (mac_text mac)

abbrev pub ip_json : Ip → Data
ip_json ip = string (ip_text ip)

abbrev pub prefix_json : Cidr → Data
prefix_json prefix = string (prefix_text prefix)

abbrev pub addr_json : Cidr → Data
addr_json addr = string (addr_text addr)

abbrev pub hop_json : Hop → Data
hop_json hop = string (hop_text hop)

-- a client by its number
abbrev pub client_json : Client → Data
client_json client = number_json (client_number client)

-- ---- in range: a printed form spells its value

abbrev pub IsMacText : ℕ → Type 0
IsMacText mac = mac_of (mac_text mac) ≡ Some mac

abbrev pub IsIpText : Ip → Type 0
IsIpText ip = ip_of (ip_text ip) ≡ Some ip

abbrev pub IsPrefixText : Cidr → Type 0
IsPrefixText prefix = prefix_of (prefix_text prefix) ≡ Some prefix

abbrev pub IsAddrText : Cidr → Type 0
IsAddrText addr = addr_of (addr_text addr) ≡ Some addr

abbrev pub IsHopText : Hop → Type 0
IsHopText hop = hop_of (hop_text hop) ≡ Some hop

abbrev pub IsSlot : ℕ → Type 0
IsSlot = IsWithin 0 4294967295

abbrev pub IsVrf : ℕ → Type 0
IsVrf = IsWithin 0 65535

abbrev pub IsVlan : ℕ → Type 0
IsVlan = IsWithin 1 4094

abbrev pub IsPort : ℕ → Type 0
IsPort = IsWithin 1 1024

abbrev pub IsIntf : ℕ → Type 0
IsIntf = IsWithin 1 4294967295

abbrev pub IsClient : Client → Type 0
IsClient client = IsWithin 0 4 (client_number client)

-- ---- read

abbrev pub slot_of : Data → Option ℕ
slot_of = number_of 0 4294967295

abbrev pub vrf_of : Data → Option ℕ
vrf_of = number_of 0 65535

abbrev pub vlan_number_of : Data → Option ℕ
vlan_number_of = number_of 1 4094

abbrev pub port_number_of : Data → Option ℕ
port_number_of = number_of 1 1024

abbrev pub intf_number_of : Data → Option ℕ
intf_number_of = number_of 1 4294967295

abbrev pub name_of : Data → Option (List ℕ)
name_of = text_of is_vlan_name

abbrev pub mac_in : Data → Option ℕ
mac_in = printed_of mac_of mac_text

abbrev pub ip_in : Data → Option Ip
ip_in = printed_of ip_of ip_text

abbrev pub prefix_in : Data → Option Cidr
prefix_in = printed_of prefix_of prefix_text

abbrev pub addr_in : Data → Option Cidr
addr_in = printed_of addr_of addr_text

abbrev pub hop_in : Data → Option Hop
hop_in = printed_of hop_of hop_text

-- the client of a number up to 4
abbrev pub client_by : ℕ → Client
client_by n = if n == 0 then Interface else (if n == 1 then Static else (if n == 2 then Openr else (if n == 3 then Ebgp else Ibgp)))

abbrev pub client_of : Data → Option Client
client_of d = option_map client_by (number_of 0 4 d)
