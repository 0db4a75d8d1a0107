use Rattle.std.proofs.Common.{arith}
use Rattle.switch_model.specs.Journal.{entries_of}
use Rattle.journal_report.proofs.JournalLaws.{entries-all, entries-more}
use Rattle.journal_report.proofs.journal.write_entries.Goals as goal

pub loop-position-preserved : goal.loop-position-preserved
loop-position-preserved c =
    let es = entries_of c.args.published.now.rounds in
    let i = c.loop-position.position in
    entries-more es c.args.out.now c.loop-position.out c.write_at.new.out c.args.first i (omega (arith, c.loop-position.auto.position)) (omega (arith, c.loop-position-test.true, c.requires.within)) c.loop-position.invariant c.in_ok-write_at.ensures

pub returns : goal.returns
returns c = entries-all (entries_of c.args.published.now.rounds) c.args.out.now c.loop-position.out c.args.first c.args.end c.loop-position.position c.loop-position-test.false (c.loop-position.auto.position-end c.requires.order) c.loop-position.invariant
