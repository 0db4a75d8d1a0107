use Rattle.std.proofs.Common.{◌∙◌, ap, sym, add-one, arith, take}
use Rattle.switch_model.specs.declared.act.Update.{Update}
use Rattle.switch_model.specs.Round.{unmarked}
use Rattle.run_queue.proofs.Loading.{one_taken}
use Rattle.run_queue.proofs.run.Run.fill_unmarked.Goals as goal

pub loop-n-preserved : goal.loop-n-preserved
loop-n-preserved c = rw (add-one c.loop-n.n) (one_taken c.args.pending.now c.loop-n.self c.put.new.self (take 64 (unmarked c.args.pending.now)) c.loop-n.n c.nth-next.result.now (omega (arith, c.loop-n-test.true, c.min-n-end.ensures, c.count.ensures)) c.nth-next.ensures (ap (λ (u : Update). u.alone) (sym c.deref.ensures) ∙ c.if-deref.false) c.in_ok-put.ensures c.loop-n.invariant)
