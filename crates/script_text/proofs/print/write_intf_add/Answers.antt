use Rattle.std.proofs.Common.{◌++◌, codes}
use Rattle.std.specs.Fmt.{decimal}
use Rattle.ip_text.specs.Printed.{mac_text}
use Rattle.script_text.proofs.Writes.{writes_behind, behind_three}
use Rattle.script_text.proofs.print.write_intf_add.Goals as goal

pub returns : goal.returns
returns c =
    let words = codes "intf add " in
    let mac = mac_text c.args.mac.now in
    writes_behind c.push_mac.result c.args.page.now c.write.new.self c.push_mac.new.self
    (words ++ (decimal c.get-intf.result ++ (codes " " ++ (decimal c.get-vlan.result ++ (codes " " ++ (decimal c.get-vrf.result ++ codes " ")))))) mac
    (words ++ (decimal c.args.intf ++ (codes " " ++ (decimal c.args.vlan ++ (codes " " ++ (decimal c.args.vrf ++ (codes " " ++ mac)))))))
    c.in_ok-write.ensures.bytes c.push_mac.ensures
    (behind_three words mac c.get-intf.result c.get-vlan.result c.get-vrf.result c.args.intf c.args.vlan c.args.vrf c.get-intf.ensures.value c.get-vlan.ensures.value c.get-vrf.ensures)
