use Rattle.std.proofs.Common.{sym, ap, ◌∙◌, arith, ◌≡◌}
use Rattle.std.proofs.lemmas.Bool.{false≢true}
use Rattle.ip_text.specs.Numerals.{is_hex}
use Rattle.ip_text.proofs.Hex.{hex_start, hex_step, hex_end}
use Rattle.ip_text.proofs.Powers.{below_16, grows_16, fits_16, enough_below}
use Rattle.ip_text.proofs.digits.hex_digits.Goals as goal

pub loop-count-init : goal.loop-count-init
loop-count-init c = record {
  within = omega arith;
  small = omega arith;
  back = λ value rest scans. hex_start c.args.low c.args.high c.args.bytes.now rest value scans;
}

pub returns-in_default-clause-scan : goal.returns-in_default-clause-scan
returns-in_default-clause-scan c = hex_end c.args.low c.args.high c.loop-count.count c.loop-count.value _ _ _ c.requires.range c.loop-count.invariant.back (λ b more e some digit. cc (e, c.in_default.ensures)) c.enough.ensures

pub returns-in_default-clause-range : goal.returns-in_default-clause-range
returns-in_default-clause-range c = enough_below _ _ _ _ _ c.enough.ensures (below_16 _ _ _ c.loop-count.invariant.small c.loop-count.invariant.within)

pub returns-in_default-hex_digit-clause-scan : goal.returns-in_default-hex_digit-clause-scan
returns-in_default-hex_digit-clause-scan c = hex_end c.args.low c.args.high c.loop-count.count c.loop-count.value _ _ _ c.requires.range c.loop-count.invariant.back (λ b more e some digit. let heads : c.in-Some.byte ≡ b = cc (e, c.in-Some.ensures) in false≢true (sym c.in_default-hex_digit.ensures.digit ∙ ap is_hex heads ∙ digit)) c.enough-in_default-hex_digit.ensures

pub returns-in_default-hex_digit-clause-range : goal.returns-in_default-hex_digit-clause-range
returns-in_default-hex_digit-clause-range c = enough_below _ _ _ _ _ c.enough-in_default-hex_digit.ensures (below_16 _ _ _ c.loop-count.invariant.small c.loop-count.invariant.within)

pub overflow_mul-value : goal.overflow_mul-value
overflow_mul-value c = omega (arith, fits_16 _ _ _ c.loop-count.invariant.small c.loop-count-test.true c.requires.small)

pub overflow_add-value : goal.overflow_add-value
overflow_add-value c = omega (arith, c.in-Some-hex_digit.ensures.range, fits_16 _ _ _ c.loop-count.invariant.small c.loop-count-test.true c.requires.small)

pub loop-count-preserved : goal.loop-count-preserved
loop-count-preserved c = record {
  within = omega arith;
  small = grows_16 _ _ _ c.loop-count.invariant.small c.in-Some-hex_digit.ensures.range;
  back = λ value rest scans. c.loop-count.invariant.back value rest (let digit = c.in-Some-hex_digit.ensures.digit in hex_step c.args.low c.args.high _ _ _ _ _ _ _ _ c.loop-count-test.true digit.0 digit.1 c.in-Some.ensures scans);
}
