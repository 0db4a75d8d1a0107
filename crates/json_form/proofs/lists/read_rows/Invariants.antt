use Rattle.std.proofs.Common.{◌≡◌, map, drop}
use Rattle.serde_json.specs.View.{view}
use Rattle.json_form.specs.Lists.{all_added, rows_of}
use Rattle.json_form.proofs.lists.read_rows.Given as goal

abbrev pub invariant-loop-item : goal.invariant-loop-item
invariant-loop-item g l = rows_of g.F.RowReader.row_of g.F.RowReader.order (view l.value) ≡ all_added g.F.RowReader.row_of g.F.RowReader.order l.rows.items (map view (drop l.item-index l.item-items))
