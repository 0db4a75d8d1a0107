use Rattle.std.proofs.Common.{refl, rules}
use Rattle.saved_state.proofs.Merges.{merges_more, merging_begins}
use Rattle.saved_state.proofs.neighbors.merged.Goals as goal

pub loop-arp-init : goal.loop-arp-init
loop-arp-init c = merging_begins _ c.args.arps.now _ c.args.ndps.now (search rules) refl c.requires.ascending c.requires.arps c.requires.ndps

pub loop-arp-preserved : goal.loop-arp-preserved
loop-arp-preserved c = merges_more _ _ _ c.loop-arp.rest.now _ c.loop-arp.left.now _ _ c.in-Some.arp.now c.in-Some.ensures.cases.0 c.loop-arp.invariant c.in_ok-later.ensures (search rules)
