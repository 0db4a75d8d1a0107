use Rattle.std.proofs.Common.{◌+◌, ◌-◌, ◌*◌, drop, get_or, sym, ap, ◌∙◌, arith}
use Rattle.script_words.specs.Reading.{read_on}
use Rattle.script_words.proofs.FieldLaws.{read_on_grows, read_on_step, digits_step}
use Rattle.script_words.proofs.number.value_of.Goals as goal

pub returns-then-value-high : goal.returns-then-value-high
returns-then-value-high c =
    λ le. let value = sym c.loop-b.invariant.value ∙ read_on_step c.loop-b.value c.args.word.now c.loop-b.b-index c.loop-b-test.true in
    omega (arith, value, read_on_grows (10 * c.loop-b.value + (get_or c.args.word.now c.loop-b.b-index 0 - 48)) (drop (c.loop-b.b-index + 1) c.args.word.now))

pub loop-b-preserved : goal.loop-b-preserved
loop-b-preserved c = record {
  within = omega arith;
  digits = digits_step c.args.word.now c.loop-b.b-index c.loop-b-test.true c.loop-b.invariant.digits;
  value = ap (λ n. read_on (10 * c.loop-b.value + n) (drop (c.loop-b.b-index + 1) c.args.word.now)) c.from.ensures ∙ sym (read_on_step c.loop-b.value c.args.word.now c.loop-b.b-index c.loop-b-test.true) ∙ c.loop-b.invariant.value;
}
