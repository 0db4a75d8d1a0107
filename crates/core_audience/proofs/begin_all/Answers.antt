use Rattle.std.proofs.Common.{arith, map}
use Rattle.core_audience.proofs.Hearing.{all_begun, begun_more, begun_none, length_map, next_there}
use Rattle.core_audience.proofs.begin_all.Goals as goal

pub loop-n-init : goal.loop-n-init
loop-n-init g c = begun_none c.args.state.now _ c.new-kept.result.items c.new-kept.ensures.items

pub loop-n-preserved : goal.loop-n-preserved
loop-n-preserved g c = begun_more c.loop-n.n c.args.state.now c.in_ok-share.field-0 _ _ _ c.loop-n.kept.items c.push.new.self.items c.loop-n.invariant c.in_ok-begin.ensures.begun c.in_ok-share.ensures c.in_ok-push.ensures.items

pub returns : goal.returns
returns g c = record { begun = all_begun c.loop-n.n c.args.state.now _ _ c.loop-n.kept.items c.loop-n.invariant (omega (arith, c.loop-n-test.false, c.loop-n.auto.n-end, c.len-n-end.ensures.length, length_map g.O.StateObserver.watch c.args.observers.now.list.items)) }

pub begin-requires : goal.begin-requires
begin-requires g c = record { there = next_there c.loop-n.n c.len-n-end.result c.args.state.now g.O.StateObserver.watch c.args.observers.now.list.items c.loop-n.observers.list.items c.loop-n.kept.items c.loop-n.invariant c.loop-n-test.true c.len-n-end.ensures.length }
