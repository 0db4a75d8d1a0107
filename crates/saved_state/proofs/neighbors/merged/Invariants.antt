use Rattle.std.proofs.Common.{length}
use Rattle.switch_model.specs.StateKeys.{neighbor_cmp}
use Rattle.state_scan.specs.Together.{together}
use Rattle.saved_state.proofs.Merges.{IsMerging}
use Rattle.saved_state.proofs.neighbors.merged.Given as goal

abbrev pub invariant-loop-arp : goal.invariant-loop-arp
invariant-loop-arp l = IsMerging l.rows.items l.rest l.left (together neighbor_cmp l.arps l.ndps)

abbrev pub decreases-loop-arp : goal.decreases-loop-arp
decreases-loop-arp l = length l.rest
