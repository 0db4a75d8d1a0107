use Rattle.std.proofs.Common.{◌≡◌, ℕ, ◌<◌, ◌^◌, false, sym, ◌∙◌, ap, subst, true≢false, arith}
use Rattle.std.proofs.lemmas.Fmt.{parse-decimal}
use Rattle.agent_words.specs.Words.{is_padded}
use Rattle.agent_words.proofs.Numbers.{parsed_decimal, decimal_plain, number_from, not_both}
use Rattle.agent_words.proofs.values.number_of.Goals as goal

pub returns-then-is_padded : goal.returns-then-is_padded
returns-then-is_padded c n low high is =
    let small : n < 2 ^ 64 = omega (arith, high, c.ranges.high.fits) in
    true≢false (sym c.if-is_padded.true ∙ c.is_padded.ensures ∙ ap is_padded (c.as_bytes.ensures.value ∙ is) ∙ decimal_plain n small)

pub returns-in-Ok : goal.returns-in-Ok
returns-in-Ok c =
    let plain : is_padded c.args.word.now ≡ false = sym (ap is_padded c.as_bytes.ensures.value) ∙ sym c.is_padded.ensures ∙ c.if-is_padded.false in
    number_from c.args.word.now c.args.low c.args.high c.in-Ok.number c.within.result (parsed_decimal c.args.word.now c.in-Ok.number plain c.in-Ok.ensures.value.0)
    (omega (arith, subst (λ (x : ℕ). x < 2 ^ 64) (sym c.in-Ok.ensures.value.0.1) c.in-Ok.ensures.value.0.0.1)) (omega (arith, c.ranges.high.fits)) c.within.ensures

pub returns-in-Err : goal.returns-in-Err
returns-in-Err c n low high is =
    let small : n < 2 ^ 64 = omega (arith, high, c.ranges.high.fits) in
    not_both c.parse.result n _ (parse-decimal 64 n c.args.word.now c.parse.result small small is c.parse.ensures.value.0) c.in-Err.is
