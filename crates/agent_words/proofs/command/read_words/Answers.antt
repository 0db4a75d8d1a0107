use Rattle.std.proofs.Common.{◌∙◌, sym, ap, map, string_bytes, true≢false}
use Rattle.std.specs.List.{list_any}
use Rattle.agent_words.specs.Words.{begins_with_hyphen}
use Rattle.agent_words.proofs.Commands.{has_form, clear, refused_as}
use Rattle.agent_words.proofs.command.read_words.Goals as goal

pub returns-in-Err-clause-refused : goal.returns-in-Err-clause-refused
returns-in-Err-clause-refused c is_refused command is =
    let ws = map string_bytes c.args.words.now.items in
    let same = ap (map string_bytes) c.as_slice.ensures.value in
    let form = has_form command ws is in
    true≢false (sym (c.in-Err.ensures.refused (refused_as _ _ is_refused) form.0 (same ∙ form.1)) ∙ ap (list_any begins_with_hyphen) same ∙ clear command ws is)
