use Rattle.std.proofs.Common.{sym, ◌∙◌}
use Rattle.std.proofs.lemmas.Bool.{eqb-true, eqb-false}
use Rattle.script_words.proofs.WordLaws.{empty_is, starts_is, next_is}
use Rattle.script_words.proofs.words.next_word.Goals as goal

pub returns-then-is_empty : goal.returns-then-is_empty
returns-then-is_empty c = sym c.skip-rest.ensures.same ∙ empty_is c.skip-rest.result.now (eqb-true _ 0 (sym c.is_empty.ensures ∙ c.if-is_empty.true))

pub returns : goal.returns
returns c =
    let rest = c.skip-rest.result.now in
    let some = eqb-false _ 0 (sym c.is_empty.ensures ∙ c.if-is_empty.false) in
    sym c.skip-rest.ensures.same ∙ next_is rest c.word_len-end.result c.word_len-end.ensures.length (starts_is rest c.skip-rest.ensures.starts some)
