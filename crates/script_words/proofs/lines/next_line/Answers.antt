use Rattle.std.proofs.Common.{sym, ◌∙◌}
use Rattle.std.proofs.lemmas.Bool.{eqb-true, eqb-false}
use Rattle.script_words.proofs.LineLaws.{no_lines, line_cut, line_last}
use Rattle.script_words.proofs.lines.next_line.Goals as goal

pub returns-then-is_empty : goal.returns-then-is_empty
returns-then-is_empty c = no_lines c.args.bytes.now (eqb-true _ 0 (sym c.is_empty.ensures ∙ c.if-is_empty.true))

pub returns-then-end-bytes : goal.returns-then-end-bytes
returns-then-end-bytes c = line_cut c.args.bytes.now c.line_len-end.result c.line_len-end.ensures.length c.if-end-bytes.true

pub returns-else-end-bytes : goal.returns-else-end-bytes
returns-else-end-bytes c = line_last c.args.bytes.now c.line_len-end.result c.line_len-end.ensures.length c.line_len-end.ensures.within c.if-end-bytes.false (eqb-false _ 0 (sym c.is_empty.ensures ∙ c.if-is_empty.false))
