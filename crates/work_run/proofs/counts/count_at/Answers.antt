use Rattle.std.proofs.Common.{arith}
use Rattle.core_laws.specs.Published.{journal_of}
use Rattle.switch_model.specs.Journal.{entries}
use Rattle.journal_report.proofs.JournalLaws.{entry-there}
use Rattle.work_run.proofs.CountLaws.{counted_at, entries_so_far, within_so_far}
use Rattle.work_run.proofs.counts.count_at.Goals as goal

pub counted-requires-clause-within : goal.counted-requires-clause-within
counted-requires-clause-within c = within_so_far (entries (journal_of c.args.published.now)) c.args.position c.args.counts c.requires.before

pub counted-requires-clause-room : goal.counted-requires-clause-room
counted-requires-clause-room c = omega (arith, entries_so_far (entries (journal_of c.args.published.now)) c.args.position c.args.counts c.requires.before c.requires.there, c.requires.room)

pub returns-in-Some : goal.returns-in-Some
returns-in-Some c = counted_at (entries (journal_of c.args.published.now)) c.args.position c.args.counts c.requires.before c.in-Some.entry.now c.counted.result c.in-Some.ensures.entry c.counted.ensures

pub returns-in-None : goal.returns-in-None
returns-in-None c = absurd (entry-there (entries (journal_of c.args.published.now)) c.args.position c.requires.there c.in-None.ensures.entry)
