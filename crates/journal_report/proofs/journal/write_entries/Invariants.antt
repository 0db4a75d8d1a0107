use Rattle.std.proofs.Common.{◌≡◌, ◌++◌}
use Rattle.std.specs.List.{between}
use Rattle.report_text.specs.EntryText.{entries_text}
use Rattle.switch_model.specs.Journal.{entries_of}
use Rattle.journal_report.proofs.journal.write_entries.Given as goal

abbrev pub invariant-loop-position : goal.invariant-loop-position
invariant-loop-position l = l.out ≡ l.fn.out ++ entries_text l.first (between l.first l.position (entries_of l.published.rounds))
