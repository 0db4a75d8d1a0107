use Rattle.std.proofs.Common.{◌∙◌}
use Rattle.clap.specs.Matches.{found_of}
use Rattle.agent_words.proofs.Parse.{form_from_is}
use Rattle.agent_words.proofs.parser.text_in.Goals as goal

pub returns-in-Some : goal.returns-in-Some
returns-in-Some c =
    c.text_from.ensures ∙ form_from_is c.args.matches.now c.in-Some.name.now (found_of c.in-Some.found.now) _ _ _ c.in-Some.ensures.name c.in-Some.ensures.rows
    c.get_str.ensures c.get_str-in-Some.ensures c.get_str-in-Some-2.ensures
