use Rattle.ip_text.proofs.WordLaws.{ip_word, prefix_word, addr_word, mac_word, hop_word}
use Rattle.ip_text.proofs.laws.printed_is_a_word.Goals as goal

pub returns : goal.returns
returns c = record { ip = ip_word; prefix = prefix_word; addr = addr_word; mac = mac_word; hop = hop_word }
