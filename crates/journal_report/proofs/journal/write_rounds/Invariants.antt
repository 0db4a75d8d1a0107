use Rattle.std.proofs.Common.{◌≡◌, ◌++◌, take}
use Rattle.journal_report.specs.Written.{IsWritten}
use Rattle.report_text.specs.EntryText.{rounds_text}
use Rattle.journal_report.proofs.journal.write_rounds.Given as goal

abbrev pub invariant-loop : goal.invariant-loop
invariant-loop l = record {
  rounds : l.written.rounds ≡ l.counter;
  written : IsWritten l.published.base.version l.published.rounds l.written;
  text : l.out ≡ l.fn.out ++ rounds_text 0 0 l.published.base.version (take l.written.rounds l.published.rounds);
}
