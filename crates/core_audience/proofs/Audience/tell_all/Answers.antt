use Rattle.std.proofs.Common.{arith, ◌∙◌}
use Rattle.std.proofs.lemmas.Grind.{common_steps}
use Rattle.observers.proofs.ListTurns.{get_past}
use Rattle.core_audience.proofs.Hearing.{all_at, all_told, told_more, told_none}
use Rattle.core_audience.proofs.Audience.tell_all.Goals as goal

pub loop-n-init : goal.loop-n-init
loop-n-init g c = told_none c.args.state.now c.args.self.now c.args.shares.now.items c.requires.follows c.shape.ensures.even (λ k. all_at _ c.args.shares.now.items k c.requires.shares) c.requires.enough

pub loop-n-preserved : goal.loop-n-preserved
loop-n-preserved g c = told_more c.loop-n.n c.args.state.now c.args.self.now c.loop-n.self c.tell_one.new.self c.loop-n.shares.items _ c.loop-n.invariant c.tell_one.ensures.watches c.tell_one.ensures.kept (λ k past. get_past _ c.loop-n.shares.items c.loop-n.n k _ past (c.loop-n.invariant.shares k (omega (arith, past)))) (grind (arith, common_steps))

pub returns : goal.returns
returns g c = record { told = all_told c.loop-n.n c.args.state.now c.args.self.now c.loop-n.self c.loop-n.shares.items c.loop-n.invariant (omega (arith, c.loop-n-test.false, c.loop-n.auto.n-end, c.len-n-end.ensures.length)) c.shape-2.ensures.stands }
