use Rattle.std.proofs.Common.{OnOk, subst}
use Rattle.net_types.specs.declared.table.L2Key.{L2Key}
use Rattle.saved_rows.specs.StateRows.{IsStationRow}
use Rattle.saved_state.proofs.walk.MacWriterEntryWriter.write.Goals as goal

pub returns-clause-legal : goal.returns-clause-legal
returns-clause-legal c = subst (λ (key : L2Key). OnOk c.mac_value.result (IsStationRow (key, c.args.rec.now))) c.station_of.ensures c.mac_value.ensures.legal
