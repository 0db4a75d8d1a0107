use Rattle.std.proofs.Common.{◌≡◌, ◌<◌, ◌+◌, ◌-◌, ◌++◌, suc, List, ap, arith, ◌∙◌}
use Rattle.shared_laws.specs.Callers.{Seen}
use Rattle.turn_book.specs.Passes.{new_passes}
use Rattle.agent_shared.proofs.Passing.{new_front, new_moves, new_rest}
use Rattle.agent_shared.proofs.passes.passes_of.Goals as goal

pub first-requires-clause-new : goal.first-requires-clause-new
first-requires-clause-new g c κs within =
    let l = c.loop-number in
    let some : 0 < c.args.callers - l.number = omega (arith, c.loop-number-test.true) in
    new_front c.args.book.now l.number (c.args.callers - l.number) l.seats.items c.remove.result some l.invariant.left c.remove.ensures.value

pub loop-number-preserved : goal.loop-number-preserved
loop-number-preserved g c =
    let l = c.loop-number in
    let b = c.args.book.now in
    let x = c.in_ok-first.field-0 in
    let next : c.args.callers - l.number ≡ suc (c.args.callers - (l.number + 1)) = omega (arith, c.loop-number-test.true) in record {
      left = c.remove.ensures.items ∙ new_rest b l.number (c.args.callers - l.number) (c.args.callers - (l.number + 1)) l.seats.items next l.invariant.left;
      all = ap (λ (w : List Seen). c.push.new.self.items ++ w) c.remove.ensures.items
          ∙ new_moves b l.number (c.args.callers - l.number) (c.args.callers - (l.number + 1)) l.passes.items c.push.new.self.items l.seats.items (new_passes b 0 c.args.callers) x next l.invariant.left c.in_ok-first.ensures c.in_ok-push.ensures.items l.invariant.all;
    }
