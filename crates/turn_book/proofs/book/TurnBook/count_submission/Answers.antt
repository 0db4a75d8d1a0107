use Rattle.std.proofs.Common.{arith, length, ap}
use Rattle.turn_book.proofs.Own.{own_fewer}
use Rattle.turn_book.proofs.book.TurnBook.count_submission.Goals as goal

pub overflow_add-pass : goal.overflow_add-pass
overflow_add-pass g c =
    let d = c.pass.inside.seat.me.0 in
    let seen = ap length (ap (λ p. p.seen) c.pass.view_is) in
    let mine = ap length c.pass.invariant.lists.of_seen in
    let fewer = own_fewer g.V.Settles.caller d.number d.seen in
    omega (arith, seen, mine, fewer, c.pass.invariant.submitted_is, c.requires.room)
