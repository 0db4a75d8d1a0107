use Rattle.std.proofs.Common.{◌≡◌, ◌++◌, drop}
use Rattle.report_text.specs.RowText.{routes_text}
use Rattle.report_text.proofs.tables.write_route_rows.Given as goal

abbrev pub invariant-loop-entry : goal.invariant-loop-entry
invariant-loop-entry l = l.out ++ routes_text l.groups (drop l.entry-index l.rows) ≡ l.fn.out ++ routes_text l.groups l.rows
