use Rattle.std.proofs.Common.{length, ap, arith}
use Rattle.script_words.proofs.WordLaws.{words_short}
use Rattle.script_words.proofs.words.count.Goals as goal

pub overflow_add-n : goal.overflow_add-n
overflow_add-n c = omega (arith, ap length c.in-Some.ensures, words_short c.args.bytes.now, c.loop-more.invariant)
