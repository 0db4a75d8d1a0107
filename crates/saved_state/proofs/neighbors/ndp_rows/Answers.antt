use Rattle.std.proofs.Common.{rules}
use Rattle.state_keys.specs.PartKeys.{IsNdpNumber, ndp_of}
use Rattle.saved_state.proofs.Walked.{listing_begins, lists_more, number_of_next}
use Rattle.saved_state.proofs.neighbors.ndp_rows.Goals as goal

pub ndp_of-requires : goal.ndp_of-requires
ndp_of-requires c = number_of_next IsNdpNumber ndp_of c.loop-key.rows.items (c.in-Some.key.now, c.in-Some.node.now) c.loop-key.key-iterator c.next.new.self c.args.map.now.entries c.in-Some.ensures.steps c.loop-key.invariant

pub loop-key-init : goal.loop-key-init
loop-key-init c = listing_begins IsNdpNumber ndp_of _ c.into_iter-key-iterator.result c.args.map.now.entries (search rules) (search rules) c.requires

pub loop-key-preserved : goal.loop-key-preserved
loop-key-preserved c = lists_more IsNdpNumber ndp_of c.loop-key.rows.items _ (c.in-Some.key.now, c.in-Some.node.now) c.loop-key.key-iterator c.next.new.self c.args.map.now.entries c.in-Some.ensures.steps c.loop-key.invariant (search rules)
