use Rattle.std.proofs.Common.{map}
use Rattle.state_keys.specs.PartKeys.{IsFibNumber, fib_of}
use Rattle.switch_model.specs.Rows.{target_of_entry}
use Rattle.row_sources.proofs.GatherLaws.{IsReading}
use Rattle.row_sources.proofs.RowLaws.{entry_row}
use Rattle.row_sources.proofs.route.rows_of_entries.Given as goal

abbrev pub invariant-loop-key : goal.invariant-loop-key
invariant-loop-key l = IsReading IsFibNumber entry_row l.list.items l.key-iterator (map (λ e. (fib_of e.0, target_of_entry e.1.value)) l.fn.fibs.entries)
