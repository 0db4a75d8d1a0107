use Rattle.std.proofs.Common.{ℕ, List, ◌++◌, codes}
use Rattle.std.specs.Fmt.{decimal}
use Rattle.ip_text.specs.Printed.{ip_text, mac_text}
use Rattle.script_text.proofs.Writes.{writes_behind, behind_both}
use Rattle.script_text.proofs.print.write_neighbor_set.Goals as goal

pub returns : goal.returns
returns c =
    let words = codes "neighbor set" in
    let ip = ip_text c.args.ip.now in
    let station : List ℕ = codes " " ++ (mac_text c.args.mac.now ++ (codes " " ++ decimal c.args.port)) in
    writes_behind c.write_station.result c.args.page.now c.write_ip.new.page c.write_station.new.page (words ++ (codes " " ++ (decimal c.args.intf ++ (codes " " ++ ip)))) station (words ++ (codes " " ++ (decimal c.args.intf ++ (codes " " ++ (ip ++ station)))))
    c.in_ok-write_ip.ensures c.write_station.ensures (behind_both words ip station c.args.intf)
