use Rattle.ip_text.specs.Printed.{mac_text}
use Rattle.script_text.proofs.Writes.{station_written}
use Rattle.script_text.proofs.print.write_station.Goals as goal

pub returns : goal.returns
returns c =
    station_written c.write.result c.args.page.now c.push_bytes.new.self c.push_mac.new.self c.write.new.self (mac_text c.args.mac.now) c.get-port.result c.args.port
    c.in_ok-push_bytes.ensures c.in_ok-push_mac.ensures c.write.ensures.bytes c.get-port.ensures.value
