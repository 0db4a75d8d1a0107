use Rattle.std.proofs.Common.{◌≡◌, ◌++◌, drop}
use Rattle.report_text.specs.RowText.{l2_text}
use Rattle.report_text.proofs.tables.write_l2_rows.Given as goal

abbrev pub invariant-loop-entry : goal.invariant-loop-entry
invariant-loop-entry l = l.out ++ l2_text (drop l.entry-index l.rows) ≡ l.fn.out ++ l2_text l.rows
