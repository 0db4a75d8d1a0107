use Rattle.std.proofs.Common.{◌++◌, codes, append_assoc}
use Rattle.std.specs.Fmt.{decimal}
use Rattle.ip_text.specs.Printed.{mac_text}
use Rattle.net_types.specs.declared.table.HostAct.TheVariants.{Forward}
use Rattle.report_text.specs.RowText.{host_act_text}
use Rattle.report_text.proofs.Writes.{writes_after_two}
use Rattle.report_text.proofs.tables.write_forward.Goals as goal

pub returns : goal.returns
returns c =
    writes_after_two c.write-2.result c.args.out.now c.write.new.self c.push_mac.new.self c.write-2.new.self
    (codes "forward ") (mac_text c.args.mac.now)
    (codes " port " ++ (decimal c.get-port.result ++ (codes " " ++ c.up_word-up.result.now)))
    (host_act_text (Forward c.args.mac.now c.args.port c.args.up)) c.in_ok-write.ensures.bytes c.in_ok-push_mac.ensures c.write-2.ensures.bytes
    (simp (append_assoc, c.get-port.ensures.value, c.up_word-up.ensures))
