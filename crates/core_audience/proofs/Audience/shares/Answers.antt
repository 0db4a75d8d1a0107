use Rattle.std.proofs.Common.{◌≡◌, List, arith, ap, sym, subst, suc, length, add-one, ◌∙◌}
use Rattle.std.specs.List.{AllByRecursion}
use Rattle.switch_state.specs.StateView.{StateView}
use Rattle.core_audience.proofs.Hearing.{all_pushed, length_pushed}
use Rattle.core_audience.proofs.Audience.shares.Goals as goal

pub loop-init : goal.loop-init
loop-init g c = record { shares = subst (λ (l : List StateView). AllByRecursion (λ s. s ≡ c.args.state.now) l) (sym c.new-list.ensures.items) tt; count = ap length c.new-list.ensures.items }

pub loop-preserved : goal.loop-preserved
loop-preserved g c = record {
  shares = subst (λ (l : List StateView). AllByRecursion (λ s. s ≡ c.args.state.now) l) (sym c.in_ok-push.ensures.items) (all_pushed (λ s. s ≡ c.args.state.now) c.loop.list.items c.in_ok-share.field-0 c.loop.invariant.shares c.in_ok-share.ensures);
  count = ap length c.in_ok-push.ensures.items ∙ length_pushed c.loop.list.items c.in_ok-share.field-0 ∙ ap suc c.loop.invariant.count ∙ sym (add-one c.loop.counter);
}

pub returns-clause-shares : goal.returns-clause-shares
returns-clause-shares g c = c.loop.invariant.shares

pub returns-clause-enough : goal.returns-clause-enough
returns-clause-enough g c = omega (arith, c.loop.invariant.count, c.loop-test.false, c.loop.auto.counter-end, c.len-end.ensures.length)
