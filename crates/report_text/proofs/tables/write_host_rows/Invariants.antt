use Rattle.std.proofs.Common.{◌≡◌, ◌++◌, drop}
use Rattle.report_text.specs.RowText.{hosts_text}
use Rattle.report_text.proofs.tables.write_host_rows.Given as goal

abbrev pub invariant-loop-entry : goal.invariant-loop-entry
invariant-loop-entry l = l.out ++ hosts_text (drop l.entry-index l.rows) ≡ l.fn.out ++ hosts_text l.rows
