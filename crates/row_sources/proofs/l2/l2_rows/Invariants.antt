use Rattle.keyed.specs.Keyed.{with_values}
use Rattle.state_keys.specs.PartKeys.{IsStationNumber}
use Rattle.switch_model.specs.Rows.{l2_row}
use Rattle.switch_state.specs.Plain.{plain}
use Rattle.row_sources.proofs.GatherLaws.{IsReading}
use Rattle.row_sources.proofs.RowLaws.{station_entry}
use Rattle.row_sources.proofs.l2.l2_rows.Given as goal

abbrev pub invariant-loop-key : goal.invariant-loop-key
invariant-loop-key l = IsReading IsStationNumber (station_entry l.state) l.list.items l.key-iterator (with_values (l2_row (plain l.state)) (plain l.state).macs)
