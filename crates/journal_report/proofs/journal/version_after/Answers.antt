use Rattle.std.proofs.Common.{◌-◌, arith}
use Rattle.switch_model.specs.Journal.{entries_of}
use Rattle.journal_report.proofs.JournalLaws.{entry-there, version-last}
use Rattle.journal_report.proofs.journal.version_after.Goals as goal

pub returns-in-Some : goal.returns-in-Some
returns-in-Some c =
    let es = entries_of c.args.published.now.rounds in
    let w = c.args.written in
    let end = c.args.end in
    version-last es w.version w.entries end (end - 1) c.in-Some.entry.now (omega (arith, c.if-end-written.false)) (omega (arith, c.if-end-written.false)) c.requires.within c.in-Some.ensures.entry

pub returns-in-None : goal.returns-in-None
returns-in-None c =
    let es = entries_of c.args.published.now.rounds in
    absurd (entry-there es (c.args.end - 1) (omega (arith, c.if-end-written.false, c.requires.within)) c.in-None.ensures.entry)
