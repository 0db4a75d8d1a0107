use Rattle.std.proofs.Common.{arith}
use Rattle.state_update.proofs.Building.{born_stop, build_first, build_more, build_stop, build_whole}
use Rattle.state_update.proofs.acts.do_acts.Goals as goal

pub loop-index-preserved : goal.loop-index-preserved
loop-index-preserved c = build_more c.args.acts.now c.loop-index.index c.args.edit.now c.loop-index.edit c.do_act.new.edit c.index-acts-index.result (omega arith) c.index-acts-index.is c.loop-index.invariant c.in_ok-do_act.ensures.valid c.in_ok-do_act.ensures.effect c.in_ok-do_act.ensures.version c.in_ok-do_act.ensures.fibs c.do_act.ensures.paths c.do_act.ensures.births c.do_act.ensures.born

pub loop-index-init : goal.loop-index-init
loop-index-init c = build_first c.args.acts.now c.args.edit.now

pub returns-in_err-do_act-clause-paths : goal.returns-in_err-do_act-clause-paths
returns-in_err-do_act-clause-paths c = build_stop c.args.acts.now c.loop-index.index c.args.edit.now c.loop-index.edit c.do_act.new.edit _ c.loop-index.invariant c.do_act.ensures.paths

pub returns-clause-paths : goal.returns-clause-paths
returns-clause-paths c = (c.loop-index.invariant.keys, c.loop-index.invariant.paths)

pub returns-in_err-do_act-clause-born : goal.returns-in_err-do_act-clause-born
returns-in_err-do_act-clause-born c = born_stop c.args.acts.now c.loop-index.index c.args.edit.now c.loop-index.edit c.do_act.new.edit c.loop-index.invariant c.do_act.ensures.births c.do_act.ensures.born

pub returns-clause-born : goal.returns-clause-born
returns-clause-born c = c.loop-index.invariant.born

pub returns-clause-state : goal.returns-clause-state
returns-clause-state c = build_whole c.args.acts.now c.loop-index.index c.args.edit.now c.loop-index.edit c.loop-index.invariant (omega (arith, c.loop-index-test.false))
