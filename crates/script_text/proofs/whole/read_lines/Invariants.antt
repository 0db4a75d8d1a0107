use Rattle.std.proofs.Common.{length}
use Rattle.script_words.specs.Lines.{lines}
use Rattle.script_text.proofs.ScriptLaws.{Good}
use Rattle.script_text.proofs.whole.read_lines.Given as goal

abbrev pub invariant-loop-line : goal.invariant-loop-line
invariant-loop-line l = Good (lines l.bytes) (lines l.rest) l.draft l.stage l.number

abbrev pub decreases-loop-line : goal.decreases-loop-line
decreases-loop-line l = length (lines l.rest)
