use Rattle.std.proofs.Common.{◌∙◌}
use Rattle.state_counts.proofs.CountLaws.{all_followed, copied_there, follows_more, following_begins, one, some_one}
use Rattle.state_counts.proofs.following.count_on.Goals as goal

pub loop-change-init : goal.loop-change-init
loop-change-init g c = following_begins one c.args.count c.args.old.now.entries c.args.new.now.entries c.map_delta-change-items.result c.into_iter-change-iterator.result c.into_iter-change-iterator.ensures.into_iter_gives c.ranges.count.fits c.if-count-eq18446744073709551615.false c.shape.ensures.ascends c.shape-2.ensures.ascends c.map_delta-change-items.ensures.lists c.map_delta-change-items.ensures.unlisted

pub loop-change-preserved : goal.loop-change-preserved
loop-change-preserved g c = follows_more one c.args.count c.loop-change.now c.in_ok-now.now _ _ _ _ (c.in-Some.change.key, _) c.loop-change.change-iterator c.next.new.self c.in-Some.ensures.steps
    (some_one c.is_some.result _ (c.is_some.ensures ∙ copied_there c.in-Some.change.old))
    (some_one c.is_some-in-loop-change.result _ (c.is_some-in-loop-change.ensures ∙ copied_there c.in-Some.change.new))
    c.in_ok-now.ensures.moved c.in_ok-now.ensures.fits c.loop-change.invariant

pub returns : goal.returns
returns g c = all_followed c.args.count c.loop-change.now c.args.old.now.entries c.args.new.now.entries c.loop-change.change-iterator c.in-None.ensures.steps.0 c.loop-change.invariant
