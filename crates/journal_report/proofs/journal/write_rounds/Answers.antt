use Rattle.std.proofs.Common.{ℕ, ◌+◌, ap, ◌∙◌}
use Rattle.journal_report.proofs.JournalLaws.{rounds-more}
use Rattle.journal_report.proofs.journal.write_rounds.Goals as goal

pub loop-preserved : goal.loop-preserved
loop-preserved c =
    let p = c.args.published.now in
    let w = c.loop.written in
    record {
      rounds = c.in_ok-written.ensures.one ∙ ap (λ (n : ℕ). n + 1) c.loop.invariant.rounds;
      written = c.in_ok-written.ensures.written;
      text = rounds-more p.rounds p.base.version w c.in_ok-written.written.rounds c.args.out.now c.loop.out c.write_next.new.out c.loop.invariant.written c.in_ok-written.ensures.one c.loop.invariant.text c.in_ok-written.ensures.text;
    }
