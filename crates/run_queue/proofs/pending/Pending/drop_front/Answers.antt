use Rattle.std.proofs.Common.{◌≡◌, ◌∙◌, ap, arith, drop, refl, add-one}
use Rattle.run_queue.proofs.Loading.{drop_one_more}
use Rattle.run_queue.proofs.pending.Pending.drop_front.Goals as goal

pub loop-init : goal.loop-init
loop-init c = refl

pub loop-preserved : goal.loop-preserved
loop-preserved c = rw (add-one c.loop.counter) (drop_one_more c.args.self.now c.loop.self c.drop_first.new.self c.loop.counter c.loop.invariant c.drop_first.ensures)

pub returns : goal.returns
returns c = let all : c.loop.counter ≡ c.args.n = omega (arith, c.loop-test.false, c.loop.auto.counter-end) in record { list = c.loop.invariant ∙ ap (λ k. drop k c.args.self.now) all }
