use Rattle.script_text.proofs.ReadBackLaws.{PrintsWords, read_back}
use Rattle.script_text.proofs.laws.printed_is_read_back.Goals as goal

pub returns : goal.returns
returns c =
    let words = c.printed_is_a_word.ensures in
    let prints : PrintsWords = record { ip = words.ip; prefix = words.prefix; addr = words.addr; mac = words.mac; hop = words.hop } in
    read_back prints
