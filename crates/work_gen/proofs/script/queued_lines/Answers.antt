use Rattle.std.proofs.Common.{◌∙◌, ◌+◌, sym, ap}
use Rattle.work_gen.specs.Generated.{queued}
use Rattle.work_gen.proofs.LineLaws.{lines_more, lines_end}
use Rattle.work_gen.proofs.script.queued_lines.Goals as goal

pub loop-place-preserved : goal.loop-place-preserved
loop-place-preserved c =
    lines_more c.loop-place.lines _ c.queued.result c.in_ok-act.act c.args.count c.loop-place.place c.loop-place.rng c.next_act.new.rng c.loop-place-test.true c.in_ok-act.ensures
    (c.queued.ensures ∙ ap (λ k. queued (93 + k, c.in_ok-act.act)) c.from.ensures) c.in_ok-push.ensures.ok
    ∙ c.loop-place.invariant

pub returns : goal.returns
returns c = sym (lines_end c.loop-place.lines (93 + c.loop-place.place) c.args.count c.loop-place.place c.loop-place.rng c.loop-place-test.false) ∙ c.loop-place.invariant
