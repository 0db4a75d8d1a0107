use Rattle.row_compare.proofs.FrontLaws.{fewer}
use Rattle.row_compare.proofs.StepLaws.{begun, compared, ended, goes_last}
use Rattle.row_compare.proofs.compare.changes_between.Goals as goal

pub loop-pair-init : goal.loop-pair-init
loop-pair-init g c = begun g.K.Ord.cmp c.requires.order c.args.old.items c.args.new.items c.from_vec-old_left.result.items c.from_vec-new_left.result.items c.new-changes.result c.from_vec-old_left.ensures.items c.from_vec-new_left.ensures.items c.new-changes.ensures c.requires.old c.requires.new

pub take_least-requires-clause-old : goal.take_least-requires-clause-old
take_least-requires-clause-old g c = c.loop-pair.invariant.old_ascends

pub take_least-requires-clause-new : goal.take_least-requires-clause-new
take_least-requires-clause-new g c = c.loop-pair.invariant.new_ascends

pub add_change-requires : goal.add_change-requires
add_change-requires g c = goes_last g.K.Ord.cmp c.requires.order g.V.PartialEq.eq c.requires.test c.args.old.items c.args.new.items c.loop-pair.old_left.items c.loop-pair.new_left.items c.take_least.new.old.items c.take_least.new.new.items c.loop-pair.changes c.in-Some.pair c.loop-pair.invariant c.in-Some.ensures

pub loop-pair-smaller : goal.loop-pair-smaller
loop-pair-smaller g c = fewer g.K.Ord.cmp c.loop-pair.old_left.items c.loop-pair.new_left.items c.take_least.new.old.items c.take_least.new.new.items c.in-Some.pair c.in-Some.ensures

pub loop-pair-preserved : goal.loop-pair-preserved
loop-pair-preserved g c = compared g.K.Ord.cmp c.requires.order g.V.PartialEq.eq c.requires.test c.args.old.items c.args.new.items c.loop-pair.old_left.items c.loop-pair.new_left.items c.take_least.new.old.items c.take_least.new.new.items c.loop-pair.changes c.add_change.new.changes c.in-Some.pair c.loop-pair.invariant c.in-Some.ensures c.in_ok-add_change.ensures

pub returns : goal.returns
returns g c = ended g.K.Ord.cmp c.requires.order c.args.old.items c.args.new.items c.loop-pair.old_left.items c.loop-pair.new_left.items c.loop-pair.changes c.loop-pair.invariant c.in_default.ensures
