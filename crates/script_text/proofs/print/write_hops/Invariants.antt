use Rattle.std.proofs.Common.{◌≡◌, ◌++◌, codes, drop}
use Rattle.script_text.specs.UpdateText.{hops_text}
use Rattle.script_text.proofs.print.write_hops.Given as goal

abbrev pub invariant-loop-hop : goal.invariant-loop-hop
invariant-loop-hop l = l.page ++ hops_text (drop l.hop-index l.hops) ≡ l.fn.page ++ (codes "via" ++ hops_text l.hops)
