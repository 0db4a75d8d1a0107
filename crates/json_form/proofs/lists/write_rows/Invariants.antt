use Rattle.std.proofs.Common.{◌≡◌, map, take}
use Rattle.std.specs.List.{AllWithin}
use Rattle.serde_json.specs.View.{view}
use Rattle.json_form.proofs.lists.write_rows.Given as goal

abbrev pub invariant-loop-row : goal.invariant-loop-row
invariant-loop-row g l = (map view l.items.items ≡ map g.F.RowWriter.json_of (take l.row-index l.rows)) × AllWithin g.F.RowWriter.legal l.rows 0 l.row-index
