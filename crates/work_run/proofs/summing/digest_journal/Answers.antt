use Rattle.std.proofs.Common.{ℕ, ◌+◌, ap, arith, ◌∙◌}
use Rattle.work_run.proofs.SumLaws.{digest_all, digest_more}
use Rattle.work_run.proofs.summing.digest_journal.Goals as goal

pub loop-preserved : goal.loop-preserved
loop-preserved c =
    let p = c.args.published.now in
    let w = c.loop.written in
    record {
      rounds = c.in_ok-written.ensures.one ∙ ap (λ (n : ℕ). n + 1) c.loop.invariant.rounds;
      written = c.in_ok-written.ensures.written;
      taken = digest_more p.rounds p.base.version w c.in_ok-written.written.rounds c.loop.digest c.add.new.self c.new-page.result c.as_slice.result.now c.loop.invariant.written c.in_ok-written.ensures.one c.loop.invariant.taken
          c.new-page.ensures (c.as_slice.ensures.value ∙ c.into_bytes.ensures ∙ c.in_ok-written.ensures.text) c.add.ensures;
    }

pub returns : goal.returns
returns c =
    let p = c.args.published.now in
    record { taken = digest_all p.rounds p.base.version c.loop.written.rounds c.loop.digest (omega (arith, c.loop-test.false, c.loop.invariant.rounds, c.rounds-end.ensures.rounds)) c.loop.invariant.taken }
