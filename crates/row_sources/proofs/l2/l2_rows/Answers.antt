use Rattle.std.proofs.Common.{[], ◌∷◌, ◌++◌, ap, ◌∙◌}
use Rattle.state_keys.specs.PartKeys.{IsStationNumber, station_of}
use Rattle.switch_model.specs.declared.record.MacRec.{MacRec}
use Rattle.switch_model.specs.Rows.{l2_row}
use Rattle.switch_state.specs.Plain.{plain}
use Rattle.row_sources.proofs.GatherLaws.{read_end, read_more, read_number}
use Rattle.row_sources.proofs.RowLaws.{station_entry, stations_first}
use Rattle.row_sources.proofs.l2.l2_rows.Goals as goal

pub loop-key-init : goal.loop-key-init
loop-key-init c = stations_first c.args.state.now c.new-list.result.items c.into_iter-key-iterator.result c.macs-key-items.result.now c.new-list.ensures.items c.into_iter-key-iterator.ensures.into_iter_gives c.macs-key-items.ensures.map c.macs-key-items.ensures.part.numbers

pub add_station-requires : goal.add_station-requires
add_station-requires c = read_number (station_entry c.args.state.now) IsStationNumber _ (c.in-Some.key.now, c.in-Some.node.now) c.loop-key.key-iterator c.next.new.self _ c.in-Some.ensures.steps c.loop-key.invariant

pub loop-key-preserved : goal.loop-key-preserved
loop-key-preserved c = read_more (station_entry c.args.state.now) IsStationNumber _ _ (c.in-Some.key.now, c.in-Some.node.now) c.loop-key.key-iterator c.next.new.self _ c.in-Some.ensures.steps c.loop-key.invariant
    (c.in_ok-add_station.ensures ∙ ap (λ (v : MacRec). c.loop-key.list.items ++ (station_of c.in-Some.key.now, l2_row (plain c.args.state.now) v) ∷ []) c.value.ensures)

pub returns : goal.returns
returns c = read_end (station_entry c.args.state.now) IsStationNumber _ c.loop-key.key-iterator _ c.in-None.ensures.steps.0 c.loop-key.invariant
