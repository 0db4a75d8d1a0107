-- What is printed is read again.
use Rattle.std.proofs.Common.{◌<◌, ◌^◌, ◌++◌, ℕ, Option, None, Some}
use Rattle.net_types.specs.declared.ip.Ip.{Ip}
use Rattle.net_types.specs.declared.hop.Hop.{Hop}
use Rattle.net_types.specs.Cidr.{Cidr}
use Rattle.net_types.specs.Prefix.{IsAddr as IsAddrValue, IsPrefix as IsPrefixValue}
use Rattle.ip_text.specs.AddressText.{IsIp, IsAddr, IsPrefix, IsMac, IsHop, IsHopBy}
use Rattle.ip_text.specs.Printed.{ip_text, addr_text, prefix_text, mac_text, intf_text, hop_text}
use Rattle.ip_text.specs.RoundTrip.{ReadsBack, IsIpValue, IsIntfIfAny, IsHopValue}
use Rattle.ip_text.proofs.ReadLaws.{reads_back}
use Rattle.ip_text.proofs.PrintLaws.{ip_is, addr_is, mac_is, hop_is_bare, hop_is_by}

pub ip_back : (ip : Ip) → IsIpValue ip → ReadsBack IsIp IsIp ip (ip_text ip)
ip_back ip value = λ answer reads. reads_back IsIp IsIp (ip_text ip) answer ip (ip_is ip value) reads

pub addr_back : (addr : Cidr) → IsIpValue addr.ip → IsAddrValue addr → ReadsBack IsAddr IsAddr addr (addr_text addr)
addr_back addr value le = λ answer reads. reads_back IsAddr IsAddr (addr_text addr) answer addr (addr_is addr value le) reads

pub prefix_back : (prefix : Cidr) → IsIpValue prefix.ip → IsPrefixValue prefix → ReadsBack IsAddr IsPrefix prefix (prefix_text prefix)
prefix_back prefix value is = λ answer reads. reads_back IsAddr IsPrefix (prefix_text prefix) answer prefix (addr_is prefix value is.0, is.1) reads

pub mac_back : (mac : ℕ) → mac < 2 ^ 48 → ReadsBack IsMac IsMac mac (mac_text mac)
mac_back mac small = λ answer reads. reads_back IsMac IsMac (mac_text mac) answer mac (mac_is mac small) reads

hop_is : (ip : Ip) (intf : Option ℕ) → IsIpValue ip → IsIntfIfAny intf → IsHopBy ip intf (ip_text ip ++ intf_text intf)
hop_is ip None value is = hop_is_bare ip value
hop_is ip (Some intf) value is = hop_is_by ip intf value is.0 is.1

pub hop_back : (hop : Hop) → IsHopValue hop → ReadsBack IsHop IsHop hop (hop_text hop)
hop_back hop value = λ answer reads. reads_back IsHop IsHop (hop_text hop) answer hop (hop_is hop.ip hop.intf value.0 value.1) reads
