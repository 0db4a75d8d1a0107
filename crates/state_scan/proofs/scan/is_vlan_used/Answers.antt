use Rattle.std.proofs.Common.{sym, ◌∙◌}
use Rattle.state_scan.proofs.Near.{or_first, or_second}
use Rattle.state_scan.proofs.scan.is_vlan_used.Goals as goal

pub returns-then-has_station_in : goal.returns-then-has_station_in
returns-then-has_station_in c = c.if-has_station_in.true ∙ sym (or_second _ _ (sym c.has_station_in.ensures ∙ c.if-has_station_in.true))

pub returns-else-has_station_in : goal.returns-else-has_station_in
returns-else-has_station_in c = c.has_port_in.ensures ∙ sym (or_first _ _ (sym c.has_station_in.ensures ∙ c.if-has_station_in.false))
