use Rattle.std.proofs.Common.{◌==◌, sym, ◌∙◌}
use Rattle.net_types.specs.declared.table.L2Key.{L2Key}
use Rattle.switch_model.specs.declared.record.MacRec.{MacRec}
use Rattle.state_keys.specs.PartKeys.{station_of}
use Rattle.state_scan.proofs.Listing.{any_listed, or_else, or_then}
use Rattle.state_scan.proofs.scan.is_port_used.Goals as goal

pub returns-then-has_station_behind : goal.returns-then-has_station_behind
returns-then-has_station_behind c = or_then _ (any_listed station_of (λ (e : L2Key × MacRec). e.1.port == c.args.port) c.args.macs.now.entries ∙ sym c.has_station_behind.ensures) c.if-has_station_behind.true

pub returns-else-has_station_behind : goal.returns-else-has_station_behind
returns-else-has_station_behind c = or_else (any_listed station_of (λ (e : L2Key × MacRec). e.1.port == c.args.port) c.args.macs.now.entries ∙ sym c.has_station_behind.ensures) c.if-has_station_behind.false (sym c.has_neighbor_behind.ensures)
