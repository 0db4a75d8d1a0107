use Rattle.std.proofs.Common.{◌≡◌, ◌∙◌, ◌+◌, sym, ap, string_bytes, drop, map, suc, arith}
use Rattle.std.specs.List.{list_any}
use Rattle.agent_words.specs.Words.{begins_with_hyphen}
use Rattle.agent_words.proofs.Parse.{found_at, none_at, none_behind}
use Rattle.agent_words.proofs.parser.is_hyphened.Goals as goal

pub returns-then-begins_with_hyphen : goal.returns-then-begins_with_hyphen
returns-then-begins_with_hyphen c =
    let here = sym (ap (λ x. begins_with_hyphen (string_bytes x)) c.word-item.is) ∙ sym (ap begins_with_hyphen c.as_str.ensures.value) ∙ sym c.begins_with_hyphen.ensures ∙ c.if-begins_with_hyphen.true in
    sym (found_at string_bytes c.args.words.now c.loop-word.word-index c.word-item.result c.loop-word-test.true here) ∙ c.loop-word.invariant

pub loop-word-preserved : goal.loop-word-preserved
loop-word-preserved c =
    let here = sym (ap (λ x. begins_with_hyphen (string_bytes x)) c.word-item.is) ∙ sym (ap begins_with_hyphen c.as_str.ensures.value) ∙ sym c.begins_with_hyphen.ensures ∙ c.if-begins_with_hyphen.false in
    let next : c.loop-word.word-index + 1 ≡ suc c.loop-word.word-index = omega arith in
    ap (λ i. list_any begins_with_hyphen (map string_bytes (drop i c.args.words.now))) next
    ∙ none_at string_bytes c.args.words.now c.loop-word.word-index c.word-item.result c.loop-word-test.true here ∙ c.loop-word.invariant

pub returns : goal.returns
returns c = sym (none_behind string_bytes c.args.words.now c.loop-word.word-index c.loop-word-test.false) ∙ c.loop-word.invariant
