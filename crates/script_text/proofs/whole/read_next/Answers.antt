use Rattle.std.proofs.Common.{sym, ◌∙◌}
use Rattle.script_text.proofs.ScriptLaws.{word_at}
use Rattle.script_text.proofs.whole.read_next.Goals as goal

pub returns-clause-fault : goal.returns-clause-fault
returns-clause-fault c =
    word_at c.args.stage c.args.number c.args.line.now c.count.result _ c.in-Err-Left.left (sym c.all_allowed.ensures ∙ c.if-not-all_allowed.false) (sym c.is_skipped.ensures ∙ c.if-is_skipped.false) c.count.ensures c.in-Err-Left.left-is c.in-Err-Left.field-0 c.in-Err-Left.field-0-is c.in-Err-Left.ensures.fault
