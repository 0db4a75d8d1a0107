use Rattle.std.proofs.Common.{ℕ, List, ◌++◌, codes, ap, ◌∙◌, append_assoc}
use Rattle.std.specs.Fmt.{decimal}
use Rattle.ip_text.specs.Printed.{mac_text}
use Rattle.script_text.proofs.Writes.{writes_behind}
use Rattle.script_text.proofs.print.write_mac_set.Goals as goal

pub returns : goal.returns
returns c =
    let station : List ℕ = codes " " ++ (mac_text c.args.mac.now ++ (codes " " ++ decimal c.args.port)) in
    writes_behind c.write_station.result c.args.page.now c.write.new.self c.write_station.new.page (codes "mac set " ++ decimal c.get-vlan.result) station (codes "mac set " ++ (decimal c.args.vlan ++ station))
    c.in_ok-write.ensures.bytes c.write_station.ensures
    (append_assoc (codes "mac set ") (decimal c.get-vlan.result) station ∙ ap (λ (n : ℕ). codes "mac set " ++ (decimal n ++ station)) c.get-vlan.ensures.value)
