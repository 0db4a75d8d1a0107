use Rattle.std.proofs.Common.{◌++◌, codes}
use Rattle.std.specs.Fmt.{decimal}
use Rattle.ip_text.specs.Printed.{mac_text}
use Rattle.script_text.proofs.Writes.{writes_behind, behind_number}
use Rattle.script_text.proofs.print.write_mac.Goals as goal

pub returns : goal.returns
returns c =
    let words = c.args.words.now in
    let mac = mac_text c.args.mac.now in
    writes_behind c.push_mac.result c.args.page.now c.write.new.self c.push_mac.new.self (words ++ (codes " " ++ (decimal c.get-vlan.result ++ codes " "))) mac (words ++ (codes " " ++ (decimal c.args.vlan ++ (codes " " ++ mac))))
    c.in_ok-write.ensures.bytes c.push_mac.ensures (behind_number words mac c.get-vlan.result c.args.vlan c.get-vlan.ensures.value)
