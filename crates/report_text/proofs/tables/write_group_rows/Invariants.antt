use Rattle.std.proofs.Common.{◌≡◌, ◌++◌, drop}
use Rattle.report_text.specs.RowText.{groups_text}
use Rattle.report_text.proofs.tables.write_group_rows.Given as goal

abbrev pub invariant-loop-entry : goal.invariant-loop-entry
invariant-loop-entry l = l.out ++ groups_text (drop l.entry-index l.rows) ≡ l.fn.out ++ groups_text l.rows
