use Rattle.std.proofs.Common.{◌≡◌, ◌∙◌, ◌≤◌, sym, ap, map, string_bytes, length, false, arith, [], true≢false}
use Rattle.std.specs.List.{list_any}
use Rattle.clap.specs.Faults.{fault_of, is_simple_and_free}
use Rattle.clap.specs.Simple.{is_simple, subcommand_of, subcommand_rows_of}
use Rattle.clap.specs.Takes.{takes}
use Rattle.agent_words.specs.Words.{begins_with_hyphen}
use Rattle.agent_words.specs.Parser.{agent_app, form_behind}
use Rattle.agent_words.proofs.Parse.{as_many, simple, simple_and_free, form_is_words, form_is_there, words_taken}
use Rattle.agent_words.proofs.parser.text_of.Goals as goal

pub returns-in-Some-clause-text : goal.returns-in-Some-clause-text
returns-in-Some-clause-text c =
    let ws = map string_bytes c.args.words.now in
    let app = c.in_ok-command.ensures in
    let plain : list_any begins_with_hyphen ws ≡ false = sym c.is_hyphened.ensures ∙ c.if-is_hyphened.false in
    let few : length ws ≤ 3 = omega (arith, as_many string_bytes c.args.words.now, c.if-words-gt-MOST_WORDS.false) in
    let faultless : fault_of agent_app ws ≡ [] = sym (ap (λ a. fault_of a ws) app) ∙ c.in-Ok.ensures.kinds (ap is_simple_and_free app ∙ simple_and_free) in
    form_is_words ws plain few faultless (form_behind c.in-Some.text) (subcommand_rows_of c.in-Ok.matches)
    ((c.in-Ok.ensures.matches (ap is_simple app ∙ simple)).1 ∙ ap (λ a. subcommand_of a ws) app) c.in-Some.ensures

pub returns-in-Ok-clause-refused : goal.returns-in-Ok-clause-refused
returns-in-Ok-clause-refused c =
    let ws = map string_bytes c.args.words.now in
    let app = c.in_ok-command.ensures in
    let plain : list_any begins_with_hyphen ws ≡ false = sym c.is_hyphened.ensures ∙ c.if-is_hyphened.false in
    let few : length ws ≤ 3 = omega (arith, as_many string_bytes c.args.words.now, c.if-words-gt-MOST_WORDS.false) in
    let faultless : fault_of agent_app ws ≡ [] = sym (ap (λ a. fault_of a ws) app) ∙ c.in-Ok.ensures.kinds (ap is_simple_and_free app ∙ simple_and_free) in
    absurd (form_is_there ws plain few faultless (subcommand_rows_of c.in-Ok.matches)
    ((c.in-Ok.ensures.matches (ap is_simple app ∙ simple)).1 ∙ ap (λ a. subcommand_of a ws) app) c.in-None.ensures)

pub returns-clause-refused : goal.returns-clause-refused
returns-clause-refused c r f is =
    let ws = map string_bytes c.args.words.now in
    let app = c.in_ok-command.ensures in
    let plain : list_any begins_with_hyphen ws ≡ false = sym c.is_hyphened.ensures ∙ c.if-is_hyphened.false in
    let memory = c.in-Err.ensures.passes (ap (λ a. takes a ws) app ∙ words_taken ws f plain is) in
    absurd (true≢false (rw (c.kind.ensures ∙ memory) at (sym c.eq.ensures ∙ c.if-eq.false)))
