use Rattle.std.proofs.Common.{◌≡◌, ◌+◌, drop}
use Rattle.script_words.specs.Words.{word_len}
use Rattle.script_words.proofs.words.word_len.Given as goal

abbrev pub invariant-loop-at : goal.invariant-loop-at
invariant-loop-at l = l.at + word_len (drop l.at l.bytes) ≡ word_len l.bytes
