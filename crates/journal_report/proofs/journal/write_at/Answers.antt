use Rattle.report_text.proofs.Writes.{writes}
use Rattle.report_text.specs.EntryText.{entries_text, entry_text}
use Rattle.std.proofs.Common.{drop, take}
use Rattle.switch_model.specs.Journal.{entries_of}
use Rattle.journal_report.proofs.JournalLaws.{entry-at, entry-there}
use Rattle.journal_report.proofs.journal.write_at.Goals as goal

pub returns-in-Some : goal.returns-in-Some
returns-in-Some c =
    let es = entries_of c.args.published.now.rounds in
    let i = c.args.position in
    let entry = c.in-Some.entry.now in
    writes c.write_entry.result c.args.out.now c.write_entry.new.out (entry_text i entry) (entries_text i (take 1 (drop i es))) c.write_entry.ensures (entry-at es i entry c.in-Some.ensures.entry)

pub returns-in-None : goal.returns-in-None
returns-in-None c = absurd (entry-there (entries_of c.args.published.now.rounds) c.args.position c.requires.there c.in-None.ensures.entry)
