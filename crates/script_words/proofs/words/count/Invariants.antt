use Rattle.std.proofs.Common.{◌≡◌, ◌+◌, length}
use Rattle.script_words.specs.Words.{words}
use Rattle.script_words.proofs.words.count.Given as goal

abbrev pub invariant-loop-more : goal.invariant-loop-more
invariant-loop-more l = l.n + length (words l.rest) ≡ length (words l.bytes)

abbrev pub decreases-loop-more : goal.decreases-loop-more
decreases-loop-more l = length (words l.rest)
