use Rattle.std.proofs.Common.{ap, ◌∙◌}
use Rattle.report_text.proofs.Writes.{writes_behind}
use Rattle.report_text.specs.EntryText.{rounds_text}
use Rattle.report_text.specs.Report.{journal_line, journal_part}
use Rattle.switch_state.specs.StateView.{StateView}
use Rattle.journal_report.proofs.JournalLaws.{journal-text}
use Rattle.journal_report.proofs.journal.write_journal.Goals as goal

pub returns : goal.returns
returns c =
    let p = c.args.published.now in
    let last = c.version-version.ensures ∙ ap (λ (s : StateView). s.version) c.state.ensures.state ∙ c.shape.ensures.published.version in
    writes_behind c.write_rounds.result c.args.out.now c.write_journal_line.new.out c.write_rounds.new.out
    (journal_line c.front.result c.rounds.result c.version-version.result) (rounds_text 0 0 p.base.version p.rounds) (journal_part p.base.version p.rounds)
    c.in_ok-write_journal_line.ensures c.write_rounds.ensures
    (journal-text p.base.version p.rounds c.front.result c.rounds.result c.version-version.result c.front.ensures.entries c.rounds.ensures.rounds last)
