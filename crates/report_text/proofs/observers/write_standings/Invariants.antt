use Rattle.std.proofs.Common.{◌≡◌, ◌++◌, drop}
use Rattle.report_text.specs.Report.{observers_text}
use Rattle.report_text.proofs.observers.write_standings.Given as goal

abbrev pub invariant-loop-standing : goal.invariant-loop-standing
invariant-loop-standing l = record {
  number : l.number ≡ l.standing-index;
  text : l.out ++ observers_text l.number (drop l.standing-index l.standings) ≡ l.fn.out ++ observers_text 0 l.standings;
}
