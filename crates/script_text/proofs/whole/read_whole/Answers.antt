use Rattle.std.proofs.Common.{sym, ◌∙◌}
use Rattle.script_text.proofs.ScriptLaws.{is_script}
use Rattle.script_text.proofs.whole.read_whole.Goals as goal

pub returns-in-Some-clause-script : goal.returns-in-Some-clause-script
returns-in-Some-clause-script c =
    let read = c.in-Ok.ensures.found in
    is_script c.args.bytes.now _ c.in-Some.script (read.0, read.1) (sym c.in_ok-script.ensures ∙ c.in-Some.is)
