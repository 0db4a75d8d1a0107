use Rattle.ip_text.proofs.RoundTrip.{ip_back, addr_back, prefix_back, mac_back, hop_back}
use Rattle.ip_text.proofs.laws.printed_is_read_back.Goals as goal

pub returns : goal.returns
returns c = record { ip = ip_back; prefix = prefix_back; addr = addr_back; mac = mac_back; hop = hop_back }
