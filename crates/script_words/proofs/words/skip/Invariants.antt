use Rattle.std.proofs.Common.{◌≡◌, drop}
use Rattle.script_words.specs.Words.{words}
use Rattle.script_words.proofs.words.skip.Given as goal

abbrev pub invariant-loop-at : goal.invariant-loop-at
invariant-loop-at l = words (drop l.at l.bytes) ≡ words l.bytes
