use Rattle.std.proofs.Common.{length, ap, arith, length-append}
use Rattle.script_words.specs.Lines.{lines}
use Rattle.script_words.specs.LengthLaws.{lines_short}
use Rattle.script_text.proofs.ScriptLaws.{good_more, bad_line}
use Rattle.script_text.proofs.whole.read_lines.Goals as goal

pub overflow_add-number : goal.overflow_add-number
overflow_add-number c =
    let good = c.loop-line.invariant in
    omega (arith, good.place, ap length good.parts, ap length c.in-Some.ensures, length-append good.front (lines c.loop-line.rest.now), lines_short c.args.bytes.now)

pub returns-in-Err-clause-fault : goal.returns-in-Err-clause-fault
returns-in-Err-clause-fault c =
    bad_line (lines c.args.bytes.now) (lines c.loop-line.rest.now) (lines c.in-Some.more.now) c.in-Some.line.now c.loop-line.draft c.loop-line.stage c.loop-line.number c.loop-line.invariant c.in-Some.ensures c.in-Err.fault c.in-Err.ensures.fault

pub loop-line-preserved : goal.loop-line-preserved
loop-line-preserved c =
    good_more (lines c.args.bytes.now) (lines c.loop-line.rest.now) (lines c.in-Some.more.now) c.in-Some.line.now c.loop-line.draft c.in-Ok.next c.loop-line.stage c.in-Ok.place c.loop-line.number c.loop-line.invariant c.in-Some.ensures c.in-Ok.ensures.behind
