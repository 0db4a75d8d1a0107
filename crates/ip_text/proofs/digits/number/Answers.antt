use Rattle.ip_text.proofs.Numbers.{number_first, number_step, number_stop, number_zero, number_none, no_byte, no_digit, too_small, too_large}
use Rattle.std.proofs.Common.{arith}
use Rattle.ip_text.proofs.digits.number.Goals as goal

pub returns-in_default-clause-scan : goal.returns-in_default-clause-scan
returns-in_default-clause-scan c = number_none c.args.low c.args.high _ c.requires.low c.requires.high c.requires.small (λ b more e digit le. no_byte _ _ _ c.in_default.ensures e)

pub returns-in_default-decimal_digit-clause-scan : goal.returns-in_default-decimal_digit-clause-scan
returns-in_default-decimal_digit-clause-scan c = number_none c.args.low c.args.high _ c.requires.low c.requires.high c.requires.small (λ b more e digit le. no_digit _ _ _ _ _ c.in-Some.ensures c.in_default-decimal_digit.ensures e digit)

pub returns-then-digit-low-clause-scan : goal.returns-then-digit-low-clause-scan
returns-then-digit-low-clause-scan c = let d = c.in-Some-decimal_digit.ensures in number_none c.args.low c.args.high _ c.requires.low c.requires.high c.requires.small (λ b more e digit le. too_small c.args.low c.in-Some-decimal_digit.digit _ _ _ _ _ c.in-Some.ensures d.1 c.if-digit-low.true e le)

pub returns-then-digit-eq0-clause-scan : goal.returns-then-digit-eq0-clause-scan
returns-then-digit-eq0-clause-scan c =
    let digit = c.in-Some-decimal_digit.ensures in
    number_zero c.args.low c.args.high c.in-Some.byte _ _ (omega arith) c.requires.small (omega (arith, digit.1)) c.in-Some.ensures

pub digits-init : goal.digits-init
digits-init c =
    let digit = c.in-Some-decimal_digit.ensures in
    record {
      enough = omega arith;
      within = omega (arith, digit.2);
      back = λ value rest scans. number_first c.args.low c.args.high c.in-Some.byte c.in-Some-decimal_digit.digit _ _ _ _ c.requires.low c.requires.small digit.0 digit.1 (omega arith) c.in-Some.ensures scans;
    }

pub returns-in_default-first-clause-scan : goal.returns-in_default-first-clause-scan
returns-in_default-first-clause-scan c = c.digits.invariant.back _ _ (number_stop c.args.high c.digits.value _ c.digits.invariant.within (λ b more e digit le. no_byte _ _ _ c.in_default-first.ensures e))

pub returns-in_default-decimal_digit-2-clause-scan : goal.returns-in_default-decimal_digit-2-clause-scan
returns-in_default-decimal_digit-2-clause-scan c = c.digits.invariant.back _ _ (number_stop c.args.high c.digits.value _ c.digits.invariant.within (λ b more e digit le. no_digit _ _ _ _ _ c.in-Some-first.ensures c.in_default-decimal_digit-2.ensures e digit))

pub returns-then-value-digit-clause-scan : goal.returns-then-value-digit-clause-scan
returns-then-value-digit-clause-scan c = c.digits.invariant.back _ _ (number_stop c.args.high c.digits.value _ c.digits.invariant.within (λ b more e digit le. let d = c.in-Some-decimal_digit-2.ensures in too_large c.args.high c.digits.value c.in-Some-decimal_digit-2.digit _ _ _ _ _ c.in-Some-first.ensures d.1 (omega arith) e le))

pub digits-preserved : goal.digits-preserved
digits-preserved c =
    let d = c.in-Some-decimal_digit-2.ensures in
    record {
      enough = omega arith;
      within = omega arith;
      back = λ value rest scans. c.digits.invariant.back value rest (number_step c.args.high c.digits.value c.in-Some-first.byte c.in-Some-decimal_digit-2.digit _ _ _ _ d.0 d.1 c.in-Some-first.ensures scans);
    }
