use Rattle.std.proofs.Common.{inr, ◌∙◌, ap}
use Rattle.script_words.specs.Words.{goes_on}
use Rattle.script_words.proofs.WordLaws.{words_skip, goes_here, rest_is}
use Rattle.script_words.proofs.words.skip.Goals as goal

pub loop-at-preserved : goal.loop-at-preserved
loop-at-preserved c = words_skip c.args.bytes.now c.loop-at.at c.loop-at-test.true c.if-b-ne32.false ∙ c.loop-at.invariant

pub returns-then-b-ne32-clause-starts : goal.returns-then-b-ne32-clause-starts
returns-then-b-ne32-clause-starts c = inr (ap goes_on (rest_is c.args.bytes.now c.loop-at.at) ∙ goes_here c.args.bytes.now c.loop-at.at c.loop-at-test.true c.if-b-ne32.true)
