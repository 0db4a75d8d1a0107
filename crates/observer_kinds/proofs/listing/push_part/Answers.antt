use Rattle.observer_kinds.proofs.ListLaws.{listing_begins, listing_ends, lists_more}
use Rattle.observer_kinds.proofs.listing.push_part.Goals as goal

pub loop-change-init : goal.loop-change-init
loop-change-init g c = listing_begins c.args.part c.args.list.now c.args.old.now.entries c.args.new.now.entries c.map_delta-change-items.result c.into_iter-change-iterator.result c.into_iter-change-iterator.ensures.into_iter_gives c.shape.ensures.ascends c.shape-2.ensures.ascends c.map_delta-change-items.ensures.lists

pub loop-change-preserved : goal.loop-change-preserved
loop-change-preserved g c = lists_more c.args.part c.loop-change.list _ _ (c.in-Some.change.key, _) c.loop-change.change-iterator c.next.new.self c.in-Some.ensures.steps c.in_ok-push.ensures.ok c.loop-change.invariant

pub returns : goal.returns
returns g c = listing_ends c.args.part c.loop-change.list _ c.loop-change.change-iterator c.in-None.ensures.steps.0 c.loop-change.invariant
