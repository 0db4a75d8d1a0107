-- The forms of numbers, words and printed texts.
use Rattle.std.proofs.Common.{◌≡◌, ℕ, zero, suc, ◌≤◌, ◌<◌, Option, None, Some, MatchOption, refl, ap, sym, ◌∙◌, arith}
use Rattle.net_types.specs.declared.client.Client.{Client}
use Rattle.net_types.specs.declared.client.Client.TheVariants.{Interface, Static, Openr, Ebgp, Ibgp}
use Rattle.net_types.specs.Clients.{client_number}
use Rattle.ip_text.specs.Printed.{addr_text, hop_text, ip_text, mac_text, prefix_text}
use Rattle.ip_text.specs.Values.{addr_of, hop_of, ip_of, mac_of, prefix_of}
use Rattle.json_form.specs.Form.{Form}
use Rattle.json_form.proofs.FormLaws.{number_form, printed_form, turned_where}
use Rattle.saved_rows.specs.Values.{IsAddrText, IsClient, IsHopText, IsIntf, IsIpText, IsMacText, IsPort, IsPrefixText, IsSlot, IsVlan, IsVrf, addr_in, addr_json, client_by, client_json, client_of, hop_in, hop_json, intf_number_of, ip_in, ip_json, mac_in, mac_json, number_json, port_number_of, prefix_in, prefix_json, slot_of, vlan_number_of, vrf_of}

pub slot_form : Form 0 slot_of number_json IsSlot
slot_form = number_form 0 4294967295

pub vrf_form : Form 0 vrf_of number_json IsVrf
vrf_form = number_form 0 65535

pub vlan_number_form : Form 0 vlan_number_of number_json IsVlan
vlan_number_form = number_form 1 4094

pub port_number_form : Form 0 port_number_of number_json IsPort
port_number_form = number_form 1 1024

pub intf_number_form : Form 0 intf_number_of number_json IsIntf
intf_number_form = number_form 1 4294967295

pub mac_form : Form 0 mac_in mac_json IsMacText
mac_form = printed_form mac_of mac_text

pub ip_form : Form 0 ip_in ip_json IsIpText
ip_form = printed_form ip_of ip_text

pub prefix_form : Form 0 prefix_in prefix_json IsPrefixText
prefix_form = printed_form prefix_of prefix_text

pub addr_form : Form 0 addr_in addr_json IsAddrText
addr_form = printed_form addr_of addr_text

pub hop_form : Form 0 hop_in hop_json IsHopText
hop_form = printed_form hop_of hop_text

-- each number up to 4 is that of its client
numbered : (n : ℕ) → (0 ≤ n) × (n ≤ 4) → client_number (client_by n) ≡ n
numbered zero h = refl
numbered (suc zero) h = refl
numbered (suc (suc zero)) h = refl
numbered (suc (suc (suc zero))) h = refl
numbered (suc (suc (suc (suc zero)))) h = refl
numbered (suc (suc (suc (suc (suc n))))) h = absurd (omega (arith, h.1))

named : (client : Client) → client_by (client_number client) ≡ client
named Interface = refl
named Static = refl
named Openr = refl
named Ebgp = refl
named Ibgp = refl

-- the client of a number up to 4 is found
pub client_found : (n : ℕ) (found : Option Client) → n ≤ 4 → MatchOption found (4 < n) (λ client. client_number client ≡ n) → found ≡ Some (client_by n)
client_found n None few h = absurd (omega (arith, few, h))
client_found n (Some client) few h = ap Some (sym (named client) ∙ ap client_by h)

pub client_form : Form 0 client_of client_json IsClient
client_form = turned_where (number_form 0 4) client_by client_number numbered named
