use Rattle.std.proofs.Common.{◌≡◌, take}
use Rattle.journal_report.specs.Written.{IsWritten}
use Rattle.report_text.specs.EntryText.{rounds_text}
use Rattle.work_summary.specs.Digest.{HasTaken}
use Rattle.work_run.proofs.summing.digest_journal.Given as goal

abbrev pub invariant-loop : goal.invariant-loop
invariant-loop l = record {
  rounds : l.written.rounds ≡ l.counter;
  written : IsWritten l.published.base.version l.published.rounds l.written;
  taken : HasTaken l.digest (rounds_text 0 0 l.published.base.version (take l.written.rounds l.published.rounds));
}
