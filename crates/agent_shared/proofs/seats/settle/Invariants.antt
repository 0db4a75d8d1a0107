use Rattle.std.proofs.Common.{◌≡◌}
use Rattle.turn_book.specs.Passes.{IsPassOf, IsSameCaller}
use Rattle.shared_laws.specs.Callers.{AtRest, Grew}
use Rattle.shared_laws.specs.Calls.{RoundsAdded}
use Rattle.agent_shared.proofs.seats.settle.Given as goal

abbrev pub invariant-loop : goal.invariant-loop
invariant-loop g l = record {
  book : IsPassOf l.book l.seat;
  caller : IsSameCaller l.initial.seat l.seat;
  rest : AtRest l.book.opening l.seat;
  grew : Grew l.initial.seat l.seat;
  mine : l.seat.mine ≡ l.initial.seat.mine;
  tries : l.seat.tries ≡ l.initial.seat.tries;
  rounds : RoundsAdded l.book.opening l.initial.seat l.seat l.position;
}
