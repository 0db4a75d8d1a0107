use Rattle.std.proofs.Common.{◌≡◌, ◌++◌, drop}
use Rattle.script_text.specs.UpdateText.{hops_text}
use Rattle.report_text.proofs.answers.write_hops.Given as goal

abbrev pub invariant-loop-hop : goal.invariant-loop-hop
invariant-loop-hop l = l.out ++ hops_text (drop l.hop-index l.hops) ≡ l.fn.out ++ hops_text l.hops
