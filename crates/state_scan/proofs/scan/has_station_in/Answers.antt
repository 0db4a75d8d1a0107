use Rattle.std.proofs.Common.{◌∙◌}
use Rattle.state_scan.proofs.Near.{stations_near}
use Rattle.state_scan.proofs.scan.has_station_in.Goals as goal

pub returns : goal.returns
returns c = c.some_station_from.ensures ∙ stations_near c.args.vlan c.vlan_key-first.result c.args.macs.now.entries c.vlan_key-first.ensures.key c.requires c.shape.ensures.ascends
