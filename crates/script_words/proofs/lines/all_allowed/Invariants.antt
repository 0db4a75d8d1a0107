use Rattle.std.proofs.Common.{◌≡◌, drop}
use Rattle.script_words.specs.Lines.{all_allowed}
use Rattle.script_words.proofs.lines.all_allowed.Given as goal

abbrev pub invariant-loop-b : goal.invariant-loop-b
invariant-loop-b l = all_allowed (drop l.b-index l.line) ≡ all_allowed l.line
