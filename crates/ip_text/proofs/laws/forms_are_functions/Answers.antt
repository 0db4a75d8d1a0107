use Rattle.ip_text.proofs.IpValues.{ip_computes, prefix_computes, addr_computes, mac_computes, hop_computes}
use Rattle.ip_text.proofs.laws.forms_are_functions.Goals as goal

pub returns : goal.returns
returns c = record { ip = ip_computes; prefix = prefix_computes; addr = addr_computes; mac = mac_computes; hop = hop_computes }
