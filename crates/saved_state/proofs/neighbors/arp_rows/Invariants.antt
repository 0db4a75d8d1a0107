use Rattle.state_keys.specs.PartKeys.{IsArpNumber, arp_of}
use Rattle.saved_state.proofs.Walked.{IsListing}
use Rattle.saved_state.proofs.neighbors.arp_rows.Given as goal

abbrev pub invariant-loop-key : goal.invariant-loop-key
invariant-loop-key l = IsListing IsArpNumber arp_of l.rows.items l.key-iterator l.fn.map.entries
