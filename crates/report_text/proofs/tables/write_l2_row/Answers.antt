use Rattle.std.proofs.Common.{◌++◌, codes, append_assoc, [], ◌∷◌}
use Rattle.std.specs.Fmt.{decimal}
use Rattle.ip_text.specs.Printed.{mac_text}
use Rattle.report_text.specs.RowText.{l2_text}
use Rattle.report_text.proofs.Writes.{writes_after_two}
use Rattle.report_text.proofs.tables.write_l2_row.Goals as goal

pub returns : goal.returns
returns c =
    let entry = c.args.entry.now in
    writes_after_two c.writeln.result c.args.out.now c.write.new.self c.push_mac.new.self c.writeln.new.self
    (codes "l2 " ++ (decimal c.get-vlan.result ++ codes " ")) (mac_text entry.0.mac)
    (codes " port " ++ (decimal c.get-port.result ++ (codes " " ++ (c.up_word-up.result.now ++ codes "\n"))))
    (l2_text (entry ∷ [])) c.in_ok-write.ensures.bytes c.in_ok-push_mac.ensures c.writeln.ensures.bytes
    (simp (append_assoc, c.get-vlan.ensures.value, c.get-port.ensures.value, c.up_word-up.ensures))
